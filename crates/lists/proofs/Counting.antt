-- Sums of ones and noughts, and numbers that do not occur.
use mathlib.Core.Path.{◌≡◌}
use mathlib.Core.List.{List, [], ◌∷◌, map}
use Prim.Native.Nat.{ℕ, ◌≤◌}
use native.Mathlib.Omega.{arith}
use borrow.Author.Tests.{eq-eqb}
use lib.ListN.{length}
use Rattle.lists.specs.Counting.{sum, same, occurrences}

pub sum_of_ones : {A : Type 0} (f : A → ℕ) → ((a : A) → f a ≤ 1) → (l : List A) → sum (map f l) ≤ length l
unfolding sum
sum_of_ones f one [] = omega arith
sum_of_ones f one (a ∷ l) = omega (arith, one a, sum_of_ones f one l)

-- A number that does not occur is not the first, nor does it occur after that.
pub occurs_not : (x v : ℕ) (l : List ℕ) → occurrences x (v ∷ l) ≡ 0 → (v ≡ x → ⊥) × (occurrences x l ≡ 0)
unfolding same occurrences
occurs_not x v l e = (λ q. absurd (omega (arith, rw (eq-eqb v x q) at e)), omega arith)
