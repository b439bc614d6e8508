-- The digits read and those ahead are the number's digits.
use Rattle.std.proofs.Common.{◌+◌}
use Rattle.newick.proofs.NumberAhead.{Midway}
use Rattle.newick.proofs.digits.read_digits.Given as goal

abbrev pub invariant-loop-count : goal.invariant-loop-count
invariant-loop-count l = Midway l.text l.at l.value (l.at + l.count)
