-- What the state of a run holds: the tables say what its history says, and the rows are those after it.
use Rattle.std.specs.Prelude.{◌≡◌, false, true, List, ℕ, ◌+◌, ◌*◌, ◌≤◌, ◌<◌, length, get_or, set, drop}
use Rattle.entities.specs.declared.Triple.{Triple}
use Rattle.entities.specs.Limits.{most_terms, work_width}
use Rattle.terms.specs.Counted.{counted_of}
use Rattle.terms.specs.code.Held.{Held}
use Rattle.terms.specs.Job.{Job}
use Rattle.history.specs.Drops.{counted_after, drop_in}
use Rattle.history.specs.Lawful.{Lawful, LawfulHistory}
use Rattle.history.specs.Choice.{weight_in}
use Rattle.history.specs.Run.{run_weight}
use Rattle.choosing.specs.code.Couples.{Tied}
use Rattle.merging.specs.declared.run.Run.{Run}
use Rattle.merging.specs.code.Recorded.{merge_at, recorded}

-- The merges that the state has written down, newest first.
abbrev pub history_of : Run → List Triple
history_of run = recorded run.merges run.step

-- The table has for each step so far what a rule says of its merge after those before it.
abbrev pub TableOf : (List Triple → Triple → ℕ) → Run → List ℕ → Type 0
TableOf rule run table =
    (step : ℕ) → step < run.step
    → get_or table step 0 ≡ rule (recorded run.merges step) (merge_at run.merges step)

-- Each table has its room: one for every entity, one for every step.
pub record Whole (entities steps : ℕ) (run : Run) : Type 0 where
  pub opens : length run.tables.opens ≡ entities
  pub ends : length run.tables.ends ≡ entities
  pub holders : length run.tables.holders ≡ entities
  pub merges : length run.merges ≡ steps
  pub weights : length run.weights ≡ steps
  pub drops : length run.drops ≡ steps

-- The state of a run of this job, its rows at the front of the numbers, in tables of so many entities and steps.
pub record HoldsIn (entities steps : ℕ) (job : Job) (rows : List ℕ) (run : Run) : Type 0 where
  pub whole : Whole entities steps run
  pub modes_are : run.modes ≡ job.modes
  pub rule_is : run.rule ≡ job.rule
  pub count_is : run.count ≡ length job.terms
  pub some : 1 ≤ job.modes
  pub few : job.modes ≤ steps
  pub light : length job.terms ≤ most_terms
  pub inside : run.step ≤ job.modes
  pub lawful : LawfulHistory job.modes (history_of run)
  pub tied : Tied entities job.modes (history_of run) run.tables
  pub held : Held work_width run.count rows
  pub rows_are : counted_of run.count rows ≡ counted_after job (history_of run)
  pub weight_is : run.weight ≡ run_weight job (history_of run)
  pub bounded : run.weight ≤ most_terms * run.step
  pub weights_are : TableOf (weight_in job) run run.weights
  pub drops_are : TableOf (drop_in job) run run.drops

-- The entities' tables after a merge: the three closed, their parent open with z's end, which it holds; the merges written down as before.
pub record EntitiesMerged (triple : Triple) (before after : Run) : Type 0 where
  pub opens : after.tables.opens
      ≡ set (set (set (set before.tables.opens triple.x false) triple.y false) triple.z false) (2 * before.modes + 1 + before.step) true
  pub ends : after.tables.ends ≡ set before.tables.ends (2 * before.modes + 1 + before.step) (get_or before.tables.ends triple.z 0)
  pub holders : after.tables.holders ≡ set before.tables.holders (get_or before.tables.ends triple.z 0) (2 * before.modes + 1 + before.step)
  pub modes : after.modes ≡ before.modes
  pub rule : after.rule ≡ before.rule
  pub step : after.step ≡ before.step
  pub count : after.count ≡ before.count
  pub merges : after.merges ≡ before.merges
  pub weights : after.weights ≡ before.weights
  pub drops : after.drops ≡ before.drops

-- The merge written down as the next step; the entities' tables as before.
pub record Noted (triple : Triple) (weight dropped : ℕ) (before after : Run) : Type 0 where
  pub merges : after.merges ≡ set before.merges before.step triple
  pub weights : after.weights ≡ set before.weights before.step weight
  pub drops : after.drops ≡ set before.drops before.step dropped
  pub step : after.step ≡ before.step + 1
  pub count : after.count ≡ before.count
  pub modes : after.modes ≡ before.modes
  pub rule : after.rule ≡ before.rule
  pub tables : after.tables ≡ before.tables

-- A lawful merge with its true weight, ready to be made.
pub record ReadyIn (entities steps : ℕ) (job : Job) (rows : List ℕ) (run : Run) (triple : Triple) (weight : ℕ) : Type 0 where
  pub holds : HoldsIn entities steps job rows run
  pub left : run.step < job.modes
  pub lawful : Lawful job.modes (history_of run) triple
  pub weight_is : weight ≡ weight_in job (history_of run) triple

-- The state after more merges: this history, of the same job; the numbers behind its rows as they were.
pub record WentIn (entities steps : ℕ) (job : Job) (history : List Triple) (rows : List ℕ) (after : Run) (now_rows : List ℕ) : Type 0 where
  pub holds : HoldsIn entities steps job now_rows after
  pub merges : history_of after ≡ history
  pub rest : drop (work_width * length job.terms) now_rows ≡ drop (work_width * length job.terms) rows
