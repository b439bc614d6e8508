-- The numbers of the merges passed stand in front.
use Rattle.std.proofs.Common.{◌≡◌, reverse, take}
use Rattle.lists.specs.Written.{written_at}
use Rattle.best.specs.Call.{sequence_numbers}
use Rattle.best.proofs.sequence.put_numbers.Given as goal

abbrev pub invariant-loop-step : goal.invariant-loop-step
invariant-loop-step l = l.numbers ≡ written_at 0 (sequence_numbers (reverse (take l.step l.merges))) l.initial.numbers
