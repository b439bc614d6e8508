-- The table so far and the rows ahead make the table of all rows.
use Rattle.std.proofs.Common.{◌≡◌}
use Rattle.std.specs.Slice.Iter.{chunks_exact_rest, chunks_exact_size}
use Rattle.tree.specs.Laying.{laid_over}
use Rattle.tree.proofs.laying.lay_rows.Given as goal

abbrev pub invariant-loop-row : goal.invariant-loop-row
invariant-loop-row l = (chunks_exact_size l.row-iterator ≡ 4) × (laid_over l.table (chunks_exact_rest l.row-iterator) ≡ laid_over l.initial.table l.rows)
