-- The lines of the steps passed stand at the front; at the end they are all.
use Rattle.drops_text.proofs.DropLines.{PuttingDrops}
use Rattle.drops_text.proofs.put_drops.Given as goal

abbrev pub invariant-loop-step : goal.invariant-loop-step
invariant-loop-step l = PuttingDrops l.drops l.initial.out l.out l.at l.step
