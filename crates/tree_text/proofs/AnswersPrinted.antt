-- What is printed, told by what the texts were read to say.
use Rattle.std.specs.Prelude.{Err}
use mathlib.Core.Path.{◌≡◌, refl}
use mathlib.Core.List.{List, [], ◌∷◌, ◌++◌}
use Prim.Native.Nat.{ℕ, ◌*◌}
use lib.ListN.{take}
use Rattle.refusal.specs.declared.Refusal.{Refusal}
use Rattle.refusal.specs.declared.Refusal.TheVariants.{Malformed}
use Rattle.refusal.specs.Numbers.{place_of}
use Rattle.entities.specs.Limits.{most_modes}
use Rattle.fields.specs.Texts.{spelt}
use Rattle.fields.specs.Decimal.{decimal}
use Rattle.fields.specs.Fields.{tabbed}
use Rattle.tree.specs.Check.{tree_checked}
use Rattle.tree_weight.specs.Weight.{tree_weighed}
use Rattle.terms_text.specs.Input.{Said, given, malformed as terms_malformed}
use Rattle.text.specs.Output.{line_of}
use Rattle.nodes_text.specs.TreeInput.{malformed, tree_said}
use Rattle.tree_text.specs.Answers.{checked_as, weighed_with, weighed_as, weight_line}
use Rattle.tree_text.specs.code.Reading.{TreeRead}

-- A weight's line is its word with a tab, the number and LF.
pub weight_parts : (weight : ℕ) → spelt "weight\t" ++ (decimal weight ++ (10 ∷ [])) ≡ weight_line weight
unfolding weight_line line_of tabbed
weight_parts weight = refl

-- What a text was read to say, checked and weighed.
module _ (tree : List ℕ) where
  module _ (why : Refusal) (bad : (why ≡ Malformed (place_of why)) × (tree_said most_modes tree ≡ malformed (place_of why))) where
    pub check_malformed : Err why ≡ checked_as most_modes (tree_said most_modes tree)
    unfolding checked_as
    check_malformed = rw (bad.1, ← bad.0)

    pub weigh_malformed : (terms : Said) → Err why ≡ weighed_as most_modes (tree_said most_modes tree) terms
    unfolding weighed_as
    weigh_malformed terms = rw (bad.1, ← bad.0)

  module _ {rows table : List ℕ} {count : ℕ} (read : TreeRead most_modes (tree_said most_modes tree) rows table count) where
    pub check_read : tree_checked most_modes count (take (3 * count) table) ≡ checked_as most_modes (tree_said most_modes tree)
    unfolding checked_as
    check_read = rw (read.says, read.laid, read.exact)

    pub weigh_read : (terms : Said) → weighed_with most_modes (take (3 * count) table) terms ≡ weighed_as most_modes (tree_said most_modes tree) terms
    unfolding weighed_as
    weigh_read terms = rw (read.says, read.laid)

-- What the terms' text says is weighed.
module _ (table : List ℕ) (meant : Said) where
  pub weighed_given : (modes : ℕ) (numbers : List ℕ) → meant ≡ given modes numbers
      → tree_weighed most_modes modes table numbers ≡ weighed_with most_modes table meant
  unfolding weighed_with
  weighed_given modes numbers e = rw e

  pub weighed_malformed : (why : Refusal) → (why ≡ Malformed (place_of why)) × (meant ≡ terms_malformed (place_of why))
      → Err why ≡ weighed_with most_modes table meant
  unfolding weighed_with
  weighed_malformed why bad = rw (bad.1, ← bad.0)
