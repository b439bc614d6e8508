-- Lists that count upward: ranges, and a list listed from a rule.
use Rattle.std.specs.Prelude.{Bool, true, ◌&&◌, List, [], ◌∷◌, ℕ, zero, suc, leb}

-- The rule's values at `count` places from `from` on.
unfoldable pub listed : {A : Type 0} → (ℕ → A) → ℕ → ℕ → List A
listed rule from zero = []
listed rule from (suc count) = rule from ∷ listed rule (suc from) count

-- Each number is at least the one before it, and the first at least `low`.
unfoldable pub ascends_from : ℕ → List ℕ → Bool
ascends_from low [] = true
ascends_from low (v ∷ l) = leb low v && ascends_from v l

-- The numbers never descend.
unfoldable pub ascends : List ℕ → Bool
ascends l = ascends_from 0 l
