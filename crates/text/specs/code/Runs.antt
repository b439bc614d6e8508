-- What the code that runs a text tells of it.
use Rattle.std.specs.Prelude.{◌≡◌, List, ℕ, ◌*◌, ◌≤◌, length, Err, Ok, Result}
use Rattle.lists.specs.Written.{written_at}
use Rattle.refusal.specs.declared.Refusal.{Refusal}
use Rattle.journal.specs.Resuming.{Ending, Outcome, done, refuses}
use Rattle.text.specs.declared.running.Run.{Run}

-- What is lent to a run for its rows and its new lines.
pub record Lent : Type 0 where
  pub rows : List ℕ
  pub journal : List ℕ

abbrev pub lent : List ℕ → List ℕ → Lent
lent rows journal = record { rows = rows; journal = journal }

-- A run that is done: its numbers, and its rows and new lines over the fronts of what is lent.
pub record RanDone (most : ℕ) (means : Outcome) (before after : Lent) (run : Run) : Type 0 where
  pub ending : Ending
  pub is : means ≡ done ending
  pub weight : run.weight ≡ ending.weight
  pub trials : run.trials ≡ ending.trials
  pub few : run.modes ≤ most
  pub exact : length ending.rows ≡ 4 * run.modes
  pub steps : length ending.drops ≡ run.modes
  pub rows : after.rows ≡ written_at 0 ending.rows before.rows
  pub new : run.new ≡ length ending.new
  pub fits : run.new ≤ length before.journal
  pub journal : after.journal ≡ written_at 0 ending.new before.journal

-- A table of drops after a run: those of its steps over the front, or nothing altered.
unfoldable pub drops_then : Outcome → List ℕ → List ℕ
drops_then (done ending) given = written_at 0 ending.drops given
drops_then (refuses refusal) given = given

-- A run that is refused: nothing of what is lent is altered.
pub record RanRefused (means : Outcome) (before after : Lent) (refusal : Refusal) : Type 0 where
  pub is : means ≡ refuses refusal
  pub leaves : after ≡ before

-- A text was run, of so many modes at most.
abbrev pub Runs : ℕ → Outcome → Lent → Lent → Result Run Refusal → Type 0
Runs most means before after (Ok run) = RanDone most means before after run
Runs most means before after (Err refusal) = RanRefused means before after refusal
