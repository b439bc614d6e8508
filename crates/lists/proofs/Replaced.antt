-- How often a number occurs where one element is replaced, and where every element is.
use mathlib.Core.Path.{◌≡◌, refl, sym}
use mathlib.Core.List.{List, [], ◌∷◌, map, Memᴰ}
use Prim.Native.Nat.{ℕ, zero, suc, ◌+◌, ◌<◌}
use native.Mathlib.Omega.{arith}
use lib.ListN.{length, get_or, set, replicate}
use Rattle.lists.specs.Counting.{same, occurrences}
use Rattle.lists.proofs.Sums.{same_none}

-- One more of the new, one less of the old.
pub occurrences_set : (v : ℕ) (l : List ℕ) (i new d : ℕ) → i < length l
    → occurrences v (set l i new) + same (get_or l i d) v ≡ occurrences v l + same new v
unfolding occurrences
occurrences_set v [] i new d h = absurd (omega arith)
occurrences_set v (a ∷ l) zero new d h = omega arith
occurrences_set v (a ∷ l) (suc i) new d h = omega (arith, occurrences_set v l i new d (omega arith))

-- Where exactly the elements equal to x become v, v occurs as often as x did.
pub occurrences_map : (f : ℕ → ℕ) (v x : ℕ) (l : List ℕ) → ((a : ℕ) → Memᴰ a l → same (f a) v ≡ same a x)
    → occurrences v (map f l) ≡ occurrences x l
unfolding occurrences
occurrences_map f v x [] each = refl
occurrences_map f v x (a ∷ l) each =
    omega (arith, each a (Memᴰ.head refl), occurrences_map f v x l (λ b m. each b (Memᴰ.tail m)))

-- A list of one number has no other.
pub occurrences_replicate : (v x n : ℕ) → (x ≡ v → ⊥) → occurrences v (replicate n x) ≡ 0
unfolding occurrences
occurrences_replicate v x zero apart = refl
occurrences_replicate v x (suc n) apart = omega (arith, same_none x v apart, occurrences_replicate v x n apart)

-- An element stands at some place.
pub place_of_member : {A : Type 0} (a : A) (l : List A) (d : A) → Memᴰ a l → (i : ℕ) × (i < length l) × (get_or l i d ≡ a)
place_of_member a [] d m = elim m [ ]
place_of_member a (b ∷ l) d (Memᴰ.head e) = (0, omega arith, sym e)
place_of_member a (b ∷ l) d (Memᴰ.tail m) = let r = place_of_member a l d m in (suc r.0, omega (arith, r.1), r.2)
