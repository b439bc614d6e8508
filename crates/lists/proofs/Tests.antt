-- What tests tell: two of them joined, and the one for the same number.
use mathlib.Core.Path.{◌≡◌, refl, ◌∙◌, sym}
use mathlib.Core.Bool.{Bool, true, false, cond, ◌&&◌, ◌||◌, and-eq-true_iff}
use mathlib.Core.Logic.{◌⊎◌, inl, inr, ⊎_elim}
use Prim.Native.Nat.{ℕ, ◌≤◌}
use native.Mathlib.Omega.{arith}
use borrow.Author.Tests.{eqb-true, eqb-false, eq-eqb, ne_eqb}
use lib.Dec.{eqb}

pub both : (p q : Bool) → (p && q) ≡ true → (p ≡ true) × (q ≡ true)
both p q e = (and-eq-true_iff p q).0 e

pub either : (p q : Bool) → (p || q) ≡ true → (p ≡ true) ⊎ (q ≡ true)
either true q e = inl refl
either false q e = inr e

pub neither : (p q : Bool) → (p || q) ≡ false → (p ≡ false) × (q ≡ false)
neither true q e = let z : ◌≡◌ {A = ℕ} 0 1 = cc in absurd (omega arith)
neither false q e = (refl, e)

pub not_so : (b : Bool) → (b ≡ true → ⊥) → b ≡ false
not_so true never = absurd (never refl)
not_so false never = refl

-- Two tests that pass together are the same.
pub same_test : (p q : Bool) → (p ≡ true → q ≡ true) → (q ≡ true → p ≡ true) → p ≡ q
same_test true q on back = sym (on refl)
same_test false true on back = back refl
same_test false false on back = refl

-- Of two, whichever a test takes.
pub whichever : {A : Type 0} (measure : A → ℕ) (most : ℕ) (test : Bool) (on off : A) → (test ≡ true → measure on ≤ most) → measure off ≤ most
    → measure (cond test on off) ≤ most
whichever measure most true on off h k = h refl
whichever measure most false on off h k = k

pub same_or_not : (m n : ℕ) → (m ≡ n) ⊎ (m ≡ n → ⊥)
same_or_not m n = go (eqb m n) refl
  where
    go : (b : Bool) → eqb m n ≡ b → (m ≡ n) ⊎ (m ≡ n → ⊥)
    go true e = inl (eqb-true m n e)
    go false e = inr (eqb-false m n e)

pub eqb_either : (m n : ℕ) → eqb m n ≡ eqb n m
eqb_either m n =
    ⊎_elim (λ e. eq-eqb m n e ∙ sym (eq-eqb n m (sym e))) (λ e. ne_eqb m n e ∙ sym (ne_eqb n m (λ f. e (sym f)))) (same_or_not m n)
