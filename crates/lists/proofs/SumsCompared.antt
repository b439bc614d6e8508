-- Sums compared: element by element, place by place, and in the other order.
use mathlib.Core.Path.{◌≡◌, refl}
use mathlib.Core.Bool.{Bool, true}
use mathlib.Core.List.{List, [], ◌∷◌}
use Prim.Native.Nat.{ℕ, suc, ◌<◌, ◌≤◌}
use native.Mathlib.Omega.{arith}
use lib.ListN.{length, get_or}
use Rattle.lists.specs.Counting.{sum}
use Rattle.lists.specs.Members.{every}
use Rattle.lists.proofs.Every.{every_uncons}
use Rattle.lists.proofs.Totals.{total, total_none, total_add}
use Rattle.lists.proofs.Sums.{sum_of}

-- Two weights that agree on every element of which a test holds.
pub sum_same : {A : Type 0} (test : A → Bool) (f g : A → ℕ) → ((a : A) → test a ≡ true → f a ≡ g a) → (l : List A) → every test l ≡ true
    → sum_of f l ≡ sum_of g l
unfolding sum
sum_same test f g each [] all = refl
sum_same test f g each (a ∷ l) all =
    let p = every_uncons test a l all in
    omega (arith, each a p.0, sum_same test f g each l p.1)

-- Two lists as long, the one at each place no heavier than the other.
pub sum_by_place : {A B : Type 0} (f : A → ℕ) (g : B → ℕ) (d : A) (e : B) (l : List A) (m : List B) → length l ≡ length m
    → ((place : ℕ) → place < length m → f (get_or l place d) ≤ g (get_or m place e)) → sum_of f l ≤ sum_of g m
unfolding sum
sum_by_place f g d e [] [] size each = omega arith
sum_by_place f g d e [] (b ∷ m) size each = absurd (omega arith)
sum_by_place f g d e (a ∷ l) [] size each = absurd (omega arith)
sum_by_place f g d e (a ∷ l) (b ∷ m) size each =
    omega (arith, each 0 (omega arith), sum_by_place f g d e l m (omega arith) (λ place h. each (suc place) (omega arith)))

-- The elements' totals summed are the sums' total.
pub sum_total : {A : Type 0} (f : A → ℕ → ℕ) (count : ℕ) (l : List A)
    → sum_of (λ a. total (f a) count) l ≡ total (λ k. sum_of (λ a. f a k) l) count
unfolding sum
sum_total f count [] = omega (arith, total_none (λ k. 0) count (λ k h. refl))
sum_total f count (a ∷ l) =
    omega (arith, sum_total f count l, total_add (f a) (λ k. sum_of (λ a. f a k) l) count)
