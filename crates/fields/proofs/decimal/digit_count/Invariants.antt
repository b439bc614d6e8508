-- So many digits are passed, and those of what is left are as many as are still to be counted.
use Rattle.fields.proofs.Digits.{Counting}
use Rattle.fields.proofs.decimal.digit_count.Given as goal

abbrev pub invariant-loop-count : goal.invariant-loop-count
invariant-loop-count l = Counting l.number l.count l.left
