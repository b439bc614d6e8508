-- The lines of the merges passed are written, and those of the numbers ahead are the others.
use Rattle.std.proofs.Common.{◌≡◌}
use Rattle.std.specs.Slice.Iter.{chunks_exact_rest, chunks_exact_size}
use Rattle.best_text.proofs.MergesPrinted.{PuttingMerges}
use Rattle.best_text.proofs.merges.put_merges.Given as goal

abbrev pub invariant-loop-numbers : goal.invariant-loop-numbers
invariant-loop-numbers l = record {
  three : chunks_exact_size l.numbers-iterator ≡ 3;
  putting : PuttingMerges l.start l.sequence l.initial.out l.out l.at (chunks_exact_rest l.numbers-iterator);
}
