-- Two lists are alike where they are the same list, and only there.
use mathlib.Core.Path.{◌≡◌, refl, ap}
use mathlib.Core.Bool.{true, false, and-eq-true_iff}
use mathlib.Core.List.{List, [], ◌∷◌}
use Prim.Native.Nat.{ℕ}
use native.Mathlib.Omega.{arith}
use borrow.Author.Tests.{eq-eqb, eqb-true}
use lib.Dec.{eqb}
use lib.ListN.{length}
use Rattle.lists.specs.Members.{alike}
use Rattle.lists.proofs.Tests.{not_so}

pub alike_self : (l : List ℕ) → alike l l ≡ true
unfolding alike
alike_self [] = refl
alike_self (a ∷ l) = rw (eq-eqb a a refl) (alike_self l)

pub alike_same : (l m : List ℕ) → alike l m ≡ true → l ≡ m
unfolding alike
alike_same [] [] e = refl
alike_same [] (b ∷ m) e = let z : ◌≡◌ {A = ℕ} 0 1 = cc in absurd (omega arith)
alike_same (a ∷ l) [] e = let z : ◌≡◌ {A = ℕ} 0 1 = cc in absurd (omega arith)
alike_same (a ∷ l) (b ∷ m) e =
    let p = (and-eq-true_iff (eqb a b) (alike l m)).0 e in
    let h : a ≡ b = eqb-true a b p.0 in
    let t : l ≡ m = alike_same l m p.1 in
    cc

pub alike_lengths : (l m : List ℕ) → (length l ≡ length m → ⊥) → alike l m ≡ false
alike_lengths l m h = not_so (alike l m) (λ e. h (ap length (alike_same l m e)))
