-- The count and the room ahead stay within the rows.
use Rattle.std.proofs.Common.{◌≡◌, ◌+◌, ◌≤◌, length}
use Rattle.std.specs.Slice.Iter.{chunks_exact_mut_rest, chunks_exact_mut_size}
use Rattle.recorded.proofs.lines.read_terms.Given as goal

abbrev pub invariant-loop-row : goal.invariant-loop-row
invariant-loop-row l = (chunks_exact_mut_size l.row-iterator ≡ 8) × (l.count + length (chunks_exact_mut_rest l.row-iterator) ≤ length l.fn.rows)
