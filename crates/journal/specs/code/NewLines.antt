-- What the code writes of a finished run: the lines of the merges that it has made.
use Rattle.std.specs.Prelude.{◌≡◌, ℕ, ◌+◌, ◌-◌, ◌<◌, ◌≤◌, length}
use mathlib.Core.List.{List, ◌++◌, flat_map}
use Rattle.lists.specs.Ranges.{listed}
use Rattle.entities.specs.declared.Triple.{Triple}
use Rattle.terms.specs.Job.{Job}
use Rattle.history.specs.History.{merge_of, history_before}
use Rattle.history.specs.computed.Greedy.{finished}
use Rattle.merging.specs.declared.run.Run.{Run}
use Rattle.merging.specs.code.State.{history_of}
use Rattle.merging.specs.code.Runs.{Holds}
use Rattle.journal.specs.Writing.{line_of, header_behind}

-- The line of one step.
unfoldable pub noted_line : Job → List Triple → ℕ → List ℕ
noted_line job history step = line_of job (history_before history step) (merge_of history step)

-- The lines of so many steps from one on, one behind the other.
unfoldable pub noted_text : Job → List Triple → ℕ → ℕ → List ℕ
noted_text job history from count = flat_map (λ line. line) (listed (noted_line job history) from count)

-- The lines of all steps from one on.
abbrev pub noted_from : Job → List Triple → ℕ → List ℕ
noted_from job history from = noted_text job history from (length history - from)

-- A step that the run has made, and room for its line behind a place.
pub record StepFits (job : Job) (own : List ℕ) (run : Run) (step at room : ℕ) : Type 0 where
  pub holds : Holds job own run
  pub made : step < length (history_of run)
  pub small : step < 65536
  pub fits : at + length (noted_line job (history_of run) step) ≤ room

-- Room for the lines of the steps from one on, behind a place.
pub record StepsFit (job : Job) (own : List ℕ) (run : Run) (from at room : ℕ) : Type 0 where
  pub holds : Holds job own run
  pub begun : from ≤ length (history_of run)
  pub small : length (history_of run) < 65536
  pub fits : at + length (noted_from job (history_of run) from) ≤ room

-- The same behind the header, if nothing was kept.
abbrev pub noted_behind : Job → ℕ → List Triple → ℕ → List ℕ
noted_behind job kept history from = header_behind job kept ++ noted_from job history from

-- A run whose merges from one on are to be written, and room for that.
pub record TextFits (job : Job) (own : List ℕ) (run : Run) (from kept room : ℕ) : Type 0 where
  pub holds : Holds job own run
  pub begun : from ≤ length (history_of run)
  pub fits : length (noted_behind job kept (history_of run) from) ≤ room

-- A run that went on to its end by the greedy rule, from a history of so many merges.
pub record Ended (job : Job) (history : List Triple) (from : ℕ) (run : Run) : Type 0 where
  pub own : List ℕ
  pub holds : Holds job own run
  pub merges : history_of run ≡ finished job history
  pub from_is : length history ≡ from
  pub within : from ≤ job.modes
