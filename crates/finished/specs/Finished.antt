-- "HATT and every accepted resume end in a tree that the check accepts, once its rows are laid in label order".
use Rattle.std.specs.Prelude.{◌≡◌, List, ℕ, ◌-◌, ◌*◌, ◌≤◌, length}
use Rattle.entities.specs.Codes.{absent}
use Rattle.entities.specs.declared.Triple.{Triple}
use Rattle.history.specs.Lawful.{LawfulHistory}
use Rattle.history.specs.Flatpack.{flatpack}
use Rattle.journal.specs.Resuming.{Ending, done, Rooms, resumed}
use Rattle.tree.specs.Laying.{laid}
use Rattle.tree.specs.Finished.{FinishedTree}

-- n lawful merges, however they were chosen, of modes whose codes are below the absent child's.
pub record AllMerged (modes : ℕ) (history : List Triple) : Type 0 where
  pub lawful : LawfulHistory modes history
  pub all : length history ≡ modes
  pub some_modes : 1 ≤ modes
  pub few_modes : 3 * modes ≤ absent

-- "its rows … laid in label order".
abbrev pub tree_of : ℕ → List Triple → List ℕ
tree_of modes history = laid modes (flatpack modes history)

-- All such merges end in a finished tree, and the last parent is its root; `most` is the most modes that the check takes.
abbrev pub LawfulFinishes : Type 0
LawfulFinishes =
    (most modes : ℕ) (history : List Triple) → AllMerged modes history → modes ≤ most
    → FinishedTree most modes (modes - 1) (tree_of modes history)

-- "HATT and every accepted resume", by either rule: HATT is resuming from an empty journal.
abbrev pub EveryFinish : Type 0
EveryFinish =
    (rooms : Rooms) (most modes rule : ℕ) (numbers bytes : List ℕ) (part : Ending)
    → resumed rooms modes rule numbers bytes ≡ done part → modes ≤ most → 3 * modes ≤ absent
    → FinishedTree most modes (modes - 1) (laid modes part.rows)
