-- The lines of the rows passed are written, and those of the rows ahead are the others.
use Rattle.std.proofs.Common.{◌≡◌}
use Rattle.std.specs.Slice.Iter.{chunks_exact_rest, chunks_exact_size}
use Rattle.text.proofs.PrintedLines.{PuttingRows}
use Rattle.text.proofs.output.put_nodes.Given as goal

abbrev pub invariant-loop-row : goal.invariant-loop-row
invariant-loop-row l = record {
  four : chunks_exact_size l.row-iterator ≡ 4;
  putting : PuttingRows l.start l.rows l.initial.out l.out l.at (chunks_exact_rest l.row-iterator);
}
