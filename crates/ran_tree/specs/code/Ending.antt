-- What the code that lays out a run's tree tells of it.
use Rattle.refusal.specs.declared.Refusal.{Refusal}
use Rattle.std.specs.Prelude.{◌≡◌, List, ℕ, ◌*◌, ◌≤◌, take, Err, Ok, Result}
use Rattle.journal.specs.Resuming.{Outcome, refuses}
use Rattle.ran_tree.specs.Printing.{tree_printed}

-- The run ended in a tree of so many modes, whose table stands in front: what is printed of the run is printed of that table.
pub record TreeStands (most : ℕ) (means : Outcome) (table : List ℕ) (modes : ℕ) : Type 0 where
  pub few : modes ≤ most
  pub prints : (of_table : ℕ → List ℕ → List ℕ) → of_table modes (take (3 * modes) table) ≡ tree_printed of_table means

abbrev pub EndsIn : ℕ → Outcome → List ℕ → Result ℕ Refusal → Type 0
EndsIn most means table (Ok modes) = TreeStands most means table modes
EndsIn most means table (Err refusal) = means ≡ refuses refusal
