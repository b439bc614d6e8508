-- What is passed and what is ahead are the text.
use Rattle.std.proofs.Common.{◌≡◌, ◌+◌, length}
use Rattle.std.specs.Slice.Iter.{split_inclusive_rest}
use Rattle.answers.proofs.replay.case_length.Given as goal

abbrev pub invariant-loop-line : goal.invariant-loop-line
invariant-loop-line l = l.length + length (split_inclusive_rest l.line-iterator) ≡ length l.text
