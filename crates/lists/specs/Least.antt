-- The best of a list by a test, the first of several; and the least by a measure.
use Rattle.std.specs.Prelude.{Bool, cond, List, [], ◌∷◌, ℕ, ltb}

-- The best of `best` and a list that follows it: each that is better than all before it takes their place.
unfoldable pub best_after : {A : Type 0} → (A → A → Bool) → A → List A → A
best_after better best [] = best
best_after better best (a ∷ l) = best_after better (cond (better a best) a best) l

-- The best of a list, the first of several; where the list is empty, `none`.
unfoldable pub best_of : {A : Type 0} → (A → A → Bool) → A → List A → A
best_of better none [] = none
best_of better none (a ∷ l) = best_after better a l

-- The one measures less than the other.
unfoldable pub lighter : {A : Type 0} → (A → ℕ) → A → A → Bool
lighter measure a b = ltb (measure a) (measure b)

-- The least of `best` and a list that follows it; on a tie the first.
unfoldable pub least : {A : Type 0} → (A → ℕ) → A → List A → A
unfolding best_after
least measure best l = best_after (lighter measure) best l

-- The least of a list, the first of several; where the list is empty, `none`.
unfoldable pub least_of : {A : Type 0} → (A → ℕ) → A → List A → A
unfolding best_of least
least_of measure none l = best_of (lighter measure) none l
