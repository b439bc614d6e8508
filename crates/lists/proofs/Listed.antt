-- What a rule lists: entry by entry, from the front and from the end, and mapped.
use mathlib.Core.Path.{◌≡◌, refl, ap, sym, ◌∙◌}
use mathlib.Core.List.{List, [], ◌∷◌, ◌++◌, map}
use Prim.Native.Nat.{ℕ, zero, suc, ◌+◌, ◌<◌, ◌≤◌}
use native.Mathlib.Nat.{add-zero, zero-add, suc-add}
use native.Mathlib.Omega.{arith}
use lib.ListN.{length, get_or, replicate}
use Rattle.std.proofs.lemmas.List.{ext_get_or}
use Rattle.lists.specs.Ranges.{listed}

module _ {A : Type 0} (rule : ℕ → A) where
  pub length_listed : (from count : ℕ) → length (listed rule from count) ≡ count
  unfolding listed
  length_listed from zero = refl
  length_listed from (suc count) = ap suc (length_listed (suc from) count)

  pub listed_at : (from count i : ℕ) (d : A) → i < count → get_or (listed rule from count) i d ≡ rule (from + i)
  unfolding listed
  listed_at from zero i d h = absurd (omega arith)
  listed_at from (suc count) zero d h = ap rule (omega arith)
  listed_at from (suc count) (suc i) d h = listed_at (suc from) count i d (omega arith) ∙ ap rule (omega arith)

  pub listed_joined : (from count more : ℕ) → listed rule from (count + more) ≡ listed rule from count ++ listed rule (from + count) more
  unfolding listed
  listed_joined from zero more = rw (zero-add more, add-zero from)
  listed_joined from (suc count) more =
      let e : suc from + count ≡ from + suc count = omega arith in
      rw (suc-add count more, listed_joined (suc from) count more, e)

  pub listed_more : (from count : ℕ) → listed rule from (count + 1) ≡ listed rule from count ++ (rule (from + count) ∷ [])
  unfolding listed
  listed_more from count = listed_joined from count 1

  -- Where the rule gives one value at these places.
  pub listed_same : (v : A) (from count : ℕ) → ((i : ℕ) → from ≤ i → i < from + count → rule i ≡ v) → listed rule from count ≡ replicate count v
  unfolding listed
  listed_same v from zero same = refl
  listed_same v from (suc count) same =
      rw (same from (omega arith) (omega arith), listed_same v (suc from) count (λ i h l. same i (omega arith) (omega arith)))

  -- A list with the rule's value at each place.
  pub listed_by_place : (s : List A) (count : ℕ) (d : A) → length s ≡ count → ((i : ℕ) → i < count → get_or s i d ≡ rule i) → s ≡ listed rule 0 count
  listed_by_place s count d whole each =
      ext_get_or d s (listed rule 0 count) (whole ∙ sym (length_listed 0 count))
      (λ i h. each i (omega arith) ∙ sym (listed_at 0 count i d (omega arith) ∙ ap rule (omega arith)))

pub map_listed : {A B : Type 0} (f : A → B) (rule : ℕ → A) (from count : ℕ) → map f (listed rule from count) ≡ listed (λ i. f (rule i)) from count
unfolding listed
map_listed f rule from zero = refl
map_listed f rule from (suc count) = ap (λ l. f (rule from) ∷ l) (map_listed f rule (suc from) count)
