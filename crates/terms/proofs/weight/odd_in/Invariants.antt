-- The parity so far and that of what is ahead give the whole.
use Rattle.std.proofs.Common.{◌≡◌, ◌≤◌, ◌+◌, ◌%◌, drop}
use Rattle.lists.specs.Counting.{occurrences}
use Rattle.terms.proofs.weight.odd_in.Given as goal

abbrev pub invariant-loop-index : goal.invariant-loop-index
invariant-loop-index l = (l.odd ≤ 1) × ((l.odd + occurrences l.number (drop l.index-index l.term)) % 2 ≡ occurrences l.number l.term % 2)
