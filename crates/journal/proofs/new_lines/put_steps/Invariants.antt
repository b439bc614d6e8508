-- The lines of the steps passed stand behind the start; at the end they are all.
use mathlib.Core.List.{List}
use Prim.Native.Nat.{ℕ}
use lib.ListN.{length}
use Rattle.terms.specs.Job.{Job}
use Rattle.merging.specs.code.State.{history_of}
use Rattle.journal.specs.code.NewLines.{StepsFit}
use Rattle.journal.proofs.PuttingLines.{Putting}
use Rattle.journal.proofs.new_lines.put_steps.Given as goal

abbrev pub invariant-loop-step : goal.invariant-loop-step
invariant-loop-step l = (job : Job) (own : List ℕ) → StepsFit job own l.run l.from l.start (length l.initial.journal) → Putting job (history_of l.run) l.from l.start l.initial.journal l.journal l.at l.step
