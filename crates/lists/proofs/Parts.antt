-- Fronts and backs of lists, and one place of them.
use mathlib.Core.Path.{◌≡◌, refl, ap}
use mathlib.Core.List.{List, [], ◌∷◌}
use Prim.Native.Nat.{ℕ, zero, suc, ◌+◌, ◌-◌, ◌<◌, ◌≤◌}
use native.Mathlib.Nat.{zero-add, suc-add, sub-zero}
use native.Mathlib.Omega.{arith}
use lib.ListN.{length, get_or, take, drop, replicate}
use lib.Seq.{take-nil, drop-nil}

pub drop_take : {A : Type 0} (m n : ℕ) (s : List A) → drop m (take (m + n) s) ≡ take n (drop m s)
drop_take zero n s = rw zero-add
drop_take (suc m) n [] = rw (take-nil, drop-nil, take-nil)
drop_take (suc m) n (a ∷ s) = rw suc-add (drop_take m n s)

pub nothing_in : {A : Type 0} (l : List A) → length l ≡ 0 → l ≡ []
nothing_in [] e = refl
nothing_in (a ∷ l) e = absurd (omega arith)

pub take_replicate : {A : Type 0} (n m : ℕ) (a : A) → n ≤ m → take n (replicate m a) ≡ replicate n a
take_replicate zero m a h = refl
take_replicate (suc n) zero a h = absurd (omega arith)
take_replicate (suc n) (suc m) a h = ap (λ l. a ∷ l) (take_replicate n m a (omega arith))

pub drop_replicate : {A : Type 0} (n m : ℕ) (a : A) → drop n (replicate m a) ≡ replicate (m - n) a
drop_replicate zero m a = rw (sub-zero m)
drop_replicate (suc n) zero a = let e : 0 - suc n ≡ 0 = omega arith in rw e
drop_replicate (suc n) (suc m) a = let e : suc m - suc n ≡ m - n = omega arith in rw e (drop_replicate n m a)

-- A place within a list reads the same whatever stands for the places beyond it.
pub read_within : {A : Type 0} (s : List A) (i : ℕ) (d e : A) → i < length s → get_or s i d ≡ get_or s i e
read_within [] i d e h = absurd (omega arith)
read_within (a ∷ s) zero d e h = refl
read_within (a ∷ s) (suc i) d e h = read_within s i d e (omega arith)
