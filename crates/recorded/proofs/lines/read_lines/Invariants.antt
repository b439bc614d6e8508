-- The count and the room ahead stay within the codes.
use Rattle.std.proofs.Common.{◌≡◌, ◌+◌, ◌≤◌, length}
use Rattle.std.specs.Slice.Iter.{chunks_exact_mut_rest, chunks_exact_mut_size}
use Rattle.recorded.proofs.lines.read_lines.Given as goal

abbrev pub invariant-loop-part : goal.invariant-loop-part
invariant-loop-part l = (chunks_exact_mut_size l.part-iterator ≡ l.width) × (l.count + length (chunks_exact_mut_rest l.part-iterator) ≤ length l.fn.codes)
