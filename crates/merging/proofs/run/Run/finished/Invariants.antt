-- A step more leads to the same end.
use Rattle.std.proofs.Common.{◌≡◌}
use Rattle.terms.specs.Job.{Job}
use Rattle.history.specs.computed.Greedy.{finished}
use Rattle.merging.specs.code.State.{history_of}
use Rattle.merging.specs.code.Runs.{Holds, Went}
use Rattle.merging.proofs.run.Run.finished.Given as goal

abbrev pub invariant-loop : goal.invariant-loop
invariant-loop l =
    (job : Job)
    → Holds job l.initial.rows l.initial.run
    → (l.run.step ≡ l.counter)
    × Went job (history_of l.run) l.initial.rows l.run l.rows
    × (finished job (history_of l.run) ≡ finished job (history_of l.initial.run))
