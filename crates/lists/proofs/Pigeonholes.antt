-- Counting by value: how often the numbers below a bound occur, added up, is how many numbers of a list are below it.
-- So a list of numbers below n in which none occurs twice has at most n, and a list of n in which each of n occurs has each once.
use mathlib.Core.Path.{◌≡◌, refl}
use mathlib.Core.Bool.{Bool, true, false}
use mathlib.Core.List.{List, [], ◌∷◌}
use Prim.Native.Nat.{ℕ, zero, suc, ◌+◌, ◌-◌, ◌<◌, ◌≤◌}
use native.Mathlib.Nat.{add-zero, add-suc}
use native.Mathlib.Omega.{arith}
use borrow.Author.Tests.{ne_eqb, eqb-true, eqb-false, ltb-true, ltb-false}
use lib.Dec.{eqb, ltb}
use lib.ListN.{length}
use Rattle.lists.specs.Counting.{same, occurrences}
use Rattle.lists.specs.Members.{every}
use Rattle.lists.proofs.Every.{every_uncons}
use Rattle.lists.proofs.Totals.{total, total_ones, total_add}

pub total_at_most : (f g : ℕ → ℕ) (m : ℕ) → ((v : ℕ) → v < m → f v ≤ g v) → total f m ≤ total g m
unfolding total
total_at_most f g zero h = omega arith
total_at_most f g (suc m) h = omega (arith, total_at_most f g m (λ v k. h v (omega arith)), h m (omega arith))

-- Where each value is at least another and the sums are no larger, each is equal.
pub values_same : (f g : ℕ → ℕ) (m : ℕ) → ((v : ℕ) → v < m → g v ≤ f v) → total f m ≤ total g m → (v : ℕ) → v < m → f v ≡ g v
unfolding total
values_same f g zero h k v b = absurd (omega arith)
values_same f g (suc m) h k v b =
    let low : (u : ℕ) → u < m → g u ≤ f u = λ u c. h u (omega arith) in
    let front = total_at_most g f m low in
    let last = h m (omega arith) in
    go (eqb v m) refl (values_same f g m low (omega arith))
  where
    go : (b : Bool) → eqb v m ≡ b → ((u : ℕ) → u < m → f u ≡ g u) → f v ≡ g v
    go true q on = let e = eqb-true v m q in rw e (omega (arith, total_at_most g f m (λ u c. h u (omega arith)), h m (omega arith)))
    go false q on = let e = eqb-false v m q in on v (omega arith)

-- A number is one of those below a bound, once, or none of them.
pub total_same_beyond : (x m : ℕ) → m ≤ x → total (λ v. same x v) m ≡ 0
unfolding total same
total_same_beyond x zero h = refl
total_same_beyond x (suc m) h =
    let other = ne_eqb x m (λ e. absurd (omega arith)) in
    rw other (omega (arith, total_same_beyond x m (omega arith)))

pub total_same_below : (x m : ℕ) → x < m → total (λ v. same x v) m ≡ 1
unfolding total same
total_same_below x zero h = absurd (omega arith)
total_same_below x (suc m) h = go (eqb x m) refl (total_same_below x m) (total_same_beyond x m)
  where
    go : (b : Bool) → eqb x m ≡ b → (x < m → total (λ v. same x v) m ≡ 1) → (m ≤ x → total (λ v. same x v) m ≡ 0)
        → total (λ v. same x v) (suc m) ≡ 1
    go true q on beyond = let e = eqb-true x m q in rw q (omega (arith, beyond (omega arith)))
    go false q on beyond = let e = eqb-false x m q in rw q (omega (arith, on (omega arith)))

total_none : (m : ℕ) → total (λ v. 0) m ≡ 0
unfolding total
total_none zero = refl
total_none (suc m) = omega (arith, total_none m)

-- The occurrences of all numbers below a bound are at most the list's length, and all of it where every number is below.
pub counted_at_most : (m : ℕ) (l : List ℕ) → total (λ v. occurrences v l) m ≤ length l
unfolding occurrences
counted_at_most m [] = omega (arith, total_none m)
counted_at_most m (x ∷ l) =
    let e = total_add (λ v. same x v) (λ v. occurrences v l) m in
    go (ltb x m) refl e (counted_at_most m l)
  where
    go : (b : Bool) → ltb x m ≡ b → total (λ v. same x v + occurrences v l) m ≡ total (λ v. same x v) m + total (λ v. occurrences v l) m
        → total (λ v. occurrences v l) m ≤ length l → total (λ v. same x v + occurrences v l) m ≤ suc (length l)
    go true q e h = omega (arith, total_same_below x m (ltb-true x m q))
    go false q e h = omega (arith, total_same_beyond x m (ltb-false x m q))

pub counted_all : (m : ℕ) (l : List ℕ) → every (λ v. ltb v m) l ≡ true → total (λ v. occurrences v l) m ≡ length l
unfolding occurrences
counted_all m [] h = total_none m
counted_all m (x ∷ l) h =
    let p = every_uncons (λ v. ltb v m) x l h in
    omega
    (arith, total_add (λ v. same x v) (λ v. occurrences v l) m, total_same_below x m (ltb-true x m p.0), counted_all m l p.1)

-- No two alike in n holes: at most n.
pub at_most_holes : (m : ℕ) (l : List ℕ) → every (λ v. ltb v m) l ≡ true → ((v : ℕ) → v < m → occurrences v l ≤ 1) → length l ≤ m
at_most_holes m l below once =
    omega (arith, counted_all m l below, total_at_most (λ v. occurrences v l) (λ v. 1) m once, total_ones m)

-- Sums to a larger bound are no smaller, also with one value more from beyond the first bound.
pub total_more : (f : ℕ → ℕ) (m more : ℕ) → total f m ≤ total f (m + more)
unfolding total
total_more f m zero = rw add-zero (omega arith)
total_more f m (suc more) = rw add-suc (omega (arith, total_more f m more))

total_to : (f : ℕ → ℕ) (m n : ℕ) → m ≤ n → total f m ≤ total f n
total_to f m n h = let e : m + (n - m) ≡ n = omega arith in rw e at (total_more f m (n - m))

total_beyond : (f : ℕ → ℕ) (m x : ℕ) → m ≤ x → total f m + f x ≤ total f (suc x)
unfolding total
total_beyond f m x h = omega (arith, total_to f m x h)

-- The occurrences of all numbers below a bound and of one or two beyond it are at most the list's length.
pub counted_with : (m x : ℕ) (l : List ℕ) → m ≤ x → total (λ v. occurrences v l) m + occurrences x l ≤ length l
counted_with m x l h = omega (arith, total_beyond (λ v. occurrences v l) m x h, counted_at_most (suc x) l)

counted_ascending : (m x y : ℕ) (l : List ℕ) → m ≤ x → x < y → total (λ v. occurrences v l) m + occurrences x l + occurrences y l ≤ length l
counted_ascending m x y l h k =
    let f : ℕ → ℕ = λ v. occurrences v l in
    omega (arith, total_beyond f m x h, total_to f (suc x) y k, counted_with y y l (omega arith))

pub counted_with_two : (m x y : ℕ) (l : List ℕ) → m ≤ x → m ≤ y → (x ≡ y → ⊥)
    → total (λ v. occurrences v l) m + occurrences x l + occurrences y l ≤ length l
counted_with_two m x y l h k other = go (ltb x y) refl
  where
    go : (b : Bool) → ltb x y ≡ b → total (λ v. occurrences v l) m + occurrences x l + occurrences y l ≤ length l
    go true q = counted_ascending m x y l h (ltb-true x y q)
    go false q = let low = ltb-false x y q in omega (arith, counted_ascending m y x l k (omega arith))
