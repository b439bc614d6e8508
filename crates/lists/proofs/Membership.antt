-- What stands in a list that was kept, joined or listed.
use mathlib.Core.Path.{◌≡◌, refl, ◌∙◌, sym, ap}
use mathlib.Core.Bool.{Bool, true, false, cond}
use mathlib.Core.List.Memᴰ
use mathlib.Core.List.{List, [], ◌∷◌, flat_map, Memᴰ}
use mathlib.Core.Logic.{⊎_elim}
use Prim.Native.Nat.{ℕ, zero, suc, ◌+◌, ◌<◌, ◌≤◌}
use native.Mathlib.Omega.{arith}
use Rattle.lists.specs.Members.{keep}
use Rattle.lists.specs.Ranges.{listed}
use Rattle.lists.proofs.Tests.{same_or_not}

module _ {A : Type 0} (test : A → Bool) where
  pub kept : {a : A} (l : List A) → test a ≡ true → Memᴰ a l → Memᴰ a (keep test l)
  unfolding keep
  kept [] t m = elim m [ ]
  kept (b ∷ l) t (Memᴰ.head e) = rw (ap test (sym e) ∙ t) (Memᴰ.head e)
  kept (b ∷ l) t (Memᴰ.tail m) = Memᴰ.append_right (cond (test b) (b ∷ []) []) (kept l t m)

  -- The element that a step keeps, if it keeps one.
  step_kept : {a : A} (b : A) (r : Bool) → test b ≡ r → Memᴰ a (cond r (b ∷ []) []) → (a ≡ b) × (test a ≡ true)
  step_kept b true t m = let e = Memᴰ.eq_of_singleton m in (e, ap test e ∙ t)
  step_kept b false t m = absurd (Memᴰ.not-nil m)

  pub of_kept : {a : A} (l : List A) → Memᴰ a (keep test l) → Memᴰ a l × (test a ≡ true)
  unfolding keep
  of_kept [] m = absurd (Memᴰ.not-nil m)
  of_kept (b ∷ l) m =
      ⊎_elim
      (λ first. (let f = step_kept b (test b) refl first in (Memᴰ.head f.0, f.1)))
      (λ later. (let f = of_kept l later in (Memᴰ.tail f.0, f.1)))
      (Memᴰ.append_cases (cond (test b) (b ∷ []) []) m)

module _ {A B : Type 0} (f : A → List B) where
  pub joined : {a : A} {b : B} (l : List A) → Memᴰ a l → Memᴰ b (f a) → Memᴰ b (flat_map f l)
  unfolding flat_map
  joined [] n m = elim n [ ]
  joined (c ∷ l) (Memᴰ.head e) m = Memᴰ.append_left (flat_map f l) (rw e at m)
  joined (c ∷ l) (Memᴰ.tail n) m = Memᴰ.append_right (f c) (joined l n m)

  pub of_joined : {b : B} (l : List A) → Memᴰ b (flat_map f l) → (a : A) × Memᴰ a l × Memᴰ b (f a)
  unfolding flat_map
  of_joined [] m = absurd (Memᴰ.not-nil m)
  of_joined (c ∷ l) m =
      ⊎_elim
      (λ first. (c, Memᴰ.head refl, first))
      (λ later. (let g = of_joined l later in (g.0, Memᴰ.tail g.1, g.2)))
      (Memᴰ.append_cases (f c) m)

pub counted : (v from count : ℕ) → from ≤ v → v < from + count → Memᴰ v (listed (λ number. number) from count)
unfolding listed
counted v from zero low high = absurd (omega arith)
counted v from (suc count) low high =
    ⊎_elim (λ e. Memᴰ.head e) (λ n. Memᴰ.tail (counted v (suc from) count (omega arith) (omega arith))) (same_or_not v from)

pub of_counted : (v from count : ℕ) → Memᴰ v (listed (λ number. number) from count) → from ≤ v
unfolding listed
of_counted v from zero m = absurd (Memᴰ.not-nil m)
of_counted v from (suc count) m =
    ⊎_elim (λ e. omega arith) (λ later. omega (arith, of_counted v (suc from) count later)) (Memᴰ.cases_cons m)

pub counted_below : (v from count : ℕ) → Memᴰ v (listed (λ number. number) from count) → v < from + count
unfolding listed
counted_below v from zero m = absurd (Memᴰ.not-nil m)
counted_below v from (suc count) m =
    ⊎_elim (λ e. omega arith) (λ later. omega (arith, counted_below v (suc from) count later)) (Memᴰ.cases_cons m)
