-- What the code knows of a finished run while it comes back to the rows before a step.
use Rattle.std.specs.Prelude.{◌≡◌, List, [], ℕ, length}
use Rattle.entities.specs.declared.Triple.{Triple}
use Rattle.entities.specs.Limits.{work_width}
use Rattle.terms.specs.Counted.{counted_of}
use Rattle.terms.specs.Job.{Job}
use Rattle.terms.specs.code.Held.{Held}
use Rattle.merging.specs.declared.run.Run.{Run}
use Rattle.history.specs.Drops.{counted_after}
use Rattle.merging.specs.code.State.{history_of}
use Rattle.merging.specs.code.Runs.{Holds}

-- The first work rows of the numbers are the job's after these merges.
pub record RowsAre (job : Job) (history : List Triple) (numbers : List ℕ) : Type 0 where
  pub held : Held work_width (length job.terms) numbers
  pub rows_are : counted_of (length job.terms) numbers ≡ counted_after job history

-- A run of the job that has made all its merges, whatever rows it has, and numbers that begin with the work rows of the job's terms.
pub record Finished (job : Job) (own : List ℕ) (run : Run) (numbers : List ℕ) : Type 0 where
  pub holds : Holds job own run
  pub all : length (history_of run) ≡ job.modes
  pub rows_are : RowsAre job [] numbers
