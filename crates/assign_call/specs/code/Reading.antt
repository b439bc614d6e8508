-- What reading the tree of a call promises: the numbers read mean what the bytes mean.
use Rattle.std.specs.Prelude.{◌≡◌, List, ℕ, ◌≤◌, length, take}
use Rattle.terms.specs.declared.rules.Rule.TheVariants.{Published}
use Rattle.terms.specs.Rules.{rule_number}
use Rattle.topphatt.specs.Answer.{asked, Rooms, outcome}
use Rattle.assign_call.specs.code.Handing.{tree_numbers}

-- So many numbers were read: assigning on them comes to what it does on all of the tree.
pub record TreeRead (most modes : ℕ) (bytes numbers : List ℕ) (count : ℕ) : Type 0 where
  pub fits : count ≤ length numbers
  pub same : (rooms : Rooms) → rooms.modes ≡ most → (heuristic : ℕ) (terms : List ℕ)
      → outcome rooms (asked modes (rule_number Published) (take count numbers) heuristic terms) ≡ outcome rooms (asked modes (rule_number Published) (tree_numbers modes bytes) heuristic terms)
