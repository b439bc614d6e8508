-- What is left of the number says the rest of the sequence behind the merges made so far.
use Rattle.std.proofs.Common.{◌≡◌, [], ◌-◌, reverse, take}
use Rattle.best.specs.code.Numbered.{sequence_at}
use Rattle.best.proofs.sequence.nth_sequence.Given as goal

abbrev pub invariant-loop-step : goal.invariant-loop-step
invariant-loop-step l = sequence_at l.modes (l.modes - l.step) (reverse (take l.step l.merges)) l.left ≡ sequence_at l.modes l.modes [] l.number
