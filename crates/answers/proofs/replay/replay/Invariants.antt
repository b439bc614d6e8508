-- No more cases are counted than bytes are passed.
use Rattle.std.proofs.Common.{◌+◌, ◌≤◌, length}
use Rattle.answers.proofs.replay.replay.Given as goal

abbrev pub invariant-loop-rest : goal.invariant-loop-rest
invariant-loop-rest g l = (l.tally.cases + length l.rest ≤ length l.text) × (l.tally.different ≤ l.tally.cases)

abbrev pub decreases-loop-rest : goal.decreases-loop-rest
decreases-loop-rest g l = length l.rest
