-- "The journal of an unbroken run, cut before or after any byte and resumed with the same modes and terms, ends in the same rows and weight, and kept bytes followed by new ones are the unbroken journal."
use Rattle.std.specs.Prelude.{◌≡◌, true, List, ◌++◌, ℕ, ◌*◌, ◌≤◌, length, take}
use Rattle.fields.specs.Lines.{kept_of}
use Rattle.terms.specs.Rules.{rule_of}
use Rattle.terms.specs.Good.{modes_good}
use Rattle.journal.specs.Resuming.{Ending, done, Rooms, roomy, resumed, hatt_run}
use Rattle.journal.specs.Obedience.{ObeyedThenGreedy}

-- The journal that a call leaves: "kept bytes (through the last LF)" of what it read, followed by the new ones.
unfoldable pub journal_of : List ℕ → Ending → List ℕ
journal_of bytes part = kept_of bytes ++ part.new

-- Resuming from the first bytes of a journal comes to the end that the journal had.
pub record ResumesCut (rooms : Rooms) (modes rule : ℕ) (numbers journal : List ℕ) (part : Ending) (cut : ℕ) : Type 0 where
  pub again : Ending
  pub resumes : resumed rooms modes rule numbers (take cut journal) ≡ done again
  pub same_rows : again.rows ≡ part.rows
  pub same_weight : again.weight ≡ part.weight
  pub same_drops : again.drops ≡ part.drops
  pub same_journal : journal_of (take cut journal) again ≡ journal
  pub told : ObeyedThenGreedy modes (rule_of rule) numbers (take cut journal) again

-- Rooms that suffice for a call.
pub record Suffice (rooms : Rooms) (modes : ℕ) (part : Ending) : Type 0 where
  pub modes_taken : modes_good rooms.modes modes ≡ true
  pub room : roomy rooms modes part.count ≡ true
  pub numbers_fit : 3 * rooms.modes ≤ 65535

-- Demand 3, of every call that is done, by either rule: its journal, cut after any byte that isn't before the end of what it kept.
abbrev pub JournalsResume : Type 0
JournalsResume =
    (rooms other : Rooms) (modes rule : ℕ) (numbers bytes : List ℕ) (part : Ending)
    → resumed rooms modes rule numbers bytes ≡ done part → Suffice other modes part
    → (cut : ℕ) → length (kept_of bytes) ≤ cut → ResumesCut other modes rule numbers (journal_of bytes part) part cut

-- Of an unbroken run: its journal, cut after any byte.
abbrev pub UnbrokenResume : Type 0
UnbrokenResume =
    (rooms other : Rooms) (modes rule : ℕ) (numbers : List ℕ) (whole : Ending)
    → hatt_run rooms modes rule numbers ≡ done whole → Suffice other modes whole → (cut : ℕ) → ResumesCut other modes rule numbers whole.new whole cut
