-- What the code asks before it finishes a run: nothing can refuse then.
use Rattle.std.specs.Prelude.{◌≡◌, true, List, ℕ, ◌+◌, ◌*◌, ◌≤◌, length}
use Rattle.entities.specs.Limits.{most_modes}
use Rattle.terms.specs.Job.{Job}
use Rattle.merging.specs.declared.run.Run.{Run}
use Rattle.merging.specs.code.Runs.{Holds}
use Rattle.journal.specs.Resuming.{roomy}
use Rattle.journal.specs.Promises.{Lent, rooms_of}

-- The run's rows stand in the call's own, and there is room for them and for what it writes.
pub record FromOwn (job : Job) (run : Run) (own : List ℕ) (given : Lent) : Type 0 where
  pub holds : Holds job own run
  pub room : roomy (rooms_of most_modes given) job.modes (length job.terms) ≡ true

-- The run's rows stand at the front of the lent work, and there is room for what it writes.
pub record Finishing (job : Job) (run : Run) (given : Lent) : Type 0 where
  pub holds : Holds job given.work run
  pub rows_room : 4 * job.modes ≤ length given.rows
  pub journal_room : 16 + 21 * job.modes ≤ length given.journal
  pub drops_room : job.modes ≤ length given.drops
