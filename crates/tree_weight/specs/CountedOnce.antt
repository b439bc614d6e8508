-- What it means that the tree weight "counts each operator once".
use Rattle.std.specs.Prelude.{◌≡◌, true, ℕ, ◌*◌, ◌<◌, ◌≤◌, ltb, length, get_or}
use mathlib.Core.List.{List, [], ◌∷◌, ◌++◌, Memᴰ}
use Rattle.lists.specs.Members.{every}
use Rattle.tree_weight.specs.Operators.{surviving}
use Rattle.tree_weight.specs.Weight.{node_letter, tree_weight, listed_weight}

-- Each of the rows has the same surviving indices as some row of the others.
abbrev pub OperatorsAmong : ℕ → List (List ℕ) → List (List ℕ) → Type 0
OperatorsAmong modes terms others =
    (term : List ℕ) → Memᴰ term terms
    → (other : List ℕ) × Memᴰ other others × (surviving (2 * modes) term ≡ surviving (2 * modes) other)

-- Rows of the same operators have one tree weight.
abbrev pub SameOperatorsWeighTheSame : Type 0
SameOperatorsWeighTheSame =
    (modes : ℕ) (table : List ℕ) (terms others : List (List ℕ))
    → OperatorsAmong modes terms others → OperatorsAmong modes others terms
    → tree_weight modes table terms ≡ tree_weight modes table others

-- So a row that is listed again, wherever, changes nothing.
abbrev pub ListedAgain : Type 0
ListedAgain =
    (modes : ℕ) (table : List ℕ) (before after : List (List ℕ)) (term : List ℕ) → Memᴰ term (before ++ after)
    → tree_weight modes table (before ++ (term ∷ after)) ≡ tree_weight modes table (before ++ after)

-- Nor does another order of the rows.
abbrev pub InAnyOrder : Type 0
InAnyOrder =
    (modes : ℕ) (table : List ℕ) (terms others : List (List ℕ))
    → ((term : List ℕ) → Memᴰ term terms → Memᴰ term others) → ((term : List ℕ) → Memᴰ term others → Memᴰ term terms)
    → tree_weight modes table terms ≡ tree_weight modes table others

-- "equal indices cancel in pairs": a pair put into a row changes nothing.
abbrev pub PairsCancel : Type 0
PairsCancel =
    (modes : ℕ) (table : List ℕ) (before after : List (List ℕ)) (front rest : List ℕ) (index : ℕ)
    → tree_weight modes table (before ++ ((front ++ (index ∷ index ∷ rest)) ∷ after)) ≡ tree_weight modes table (before ++ ((front ++ rest) ∷ after))

-- A row has the letter of its surviving indices at every node.
abbrev pub SurvivingDecide : Type 0
SurvivingDecide =
    (modes : ℕ) (table term : List ℕ) (node : ℕ) → every (λ index. ltb index (2 * modes)) term ≡ true
    → node_letter modes table (surviving (2 * modes) term) node ≡ node_letter modes table term node

-- To count each operator once is at most to count every listed row, and is that where no two rows are the same operator.
abbrev pub AtMostListed : Type 0
AtMostListed =
    (modes : ℕ) (table : List ℕ) (terms : List (List ℕ)) → every (every (λ index. ltb index (2 * modes))) terms ≡ true
    → tree_weight modes table terms ≤ listed_weight modes table terms

abbrev pub DifferentOperators : ℕ → List (List ℕ) → Type 0
DifferentOperators modes terms =
    (place later : ℕ) → place < later → later < length terms
    → surviving (2 * modes) (get_or terms place []) ≡ surviving (2 * modes) (get_or terms later []) → ⊥

abbrev pub AllDifferent : Type 0
AllDifferent =
    (modes : ℕ) (table : List ℕ) (terms : List (List ℕ)) → every (every (λ index. ltb index (2 * modes))) terms ≡ true
    → DifferentOperators modes terms → tree_weight modes table terms ≡ listed_weight modes table terms
