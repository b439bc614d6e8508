-- Sorting is right: the numbers ascend, each occurs as often as before, and a list that ascends already stays as it is.
use mathlib.Core.Path.{◌≡◌, refl, ap, ◌∙◌, sym}
use mathlib.Core.Bool.{Bool, true, false}
use mathlib.Core.List.{List, [], ◌∷◌, map}
use Prim.Native.Nat.{ℕ, suc, ◌+◌, ◌≤◌, min, max}
use native.Mathlib.Omega.{arith}
use borrow.Author.Tests.{leb-true, leb-false}
use lib.Dec.{leb}
use lib.ListN.{length, length-map}
use Rattle.lists.specs.Counting.{sum, same, occurrences}
use Rattle.lists.specs.Members.{every}
use Rattle.lists.specs.Ranges.{ascends_from, ascends}
use Rattle.lists.proofs.Ascending.{ascends_cons, ascends_uncons, ascends_lower}
use Rattle.lists.proofs.Every.{every_cons, every_uncons}
use Rattle.lists.proofs.Standard.{non_decreasing}
use Rattle.lists.proofs.OneOrder.{as_often, one_order}
use Rattle.std.proofs.Common.{nat_cmp}
use Rattle.std.proofs.lemmas.List.Sorted.{IsNonDecreasingBy-from_sort}
use Rattle.std.specs.List.Sorted.{IsPermutation, IsSortedByKey}
use Rattle.lists.proofs.Sums.{sum_of, sum_occurrences}
use Rattle.entities.specs.declared.Triple.{Triple}
use Rattle.reduction.specs.Reduction.{put_in, sorted, replacement, rewriting}

pub length_put_in : (number : ℕ) (l : List ℕ) → length (put_in number l) ≡ suc (length l)
unfolding put_in
length_put_in number [] = refl
length_put_in number (next ∷ l) = ap suc (length_put_in (max number next) l)

pub length_sorted : (l : List ℕ) → length (sorted l) ≡ length l
unfolding sorted
length_sorted [] = refl
length_sorted (number ∷ l) = length_put_in number (sorted l) ∙ ap suc (length_sorted l)

put_in_ascends : (low number : ℕ) (l : List ℕ) → low ≤ number → ascends_from low l ≡ true → ascends_from low (put_in number l) ≡ true
unfolding put_in ascends_from
put_in_ascends low number [] h e = ascends_cons low number [] h refl
put_in_ascends low number (next ∷ l) h e =
    let p = ascends_uncons low next l e in
    let smaller = min number next in
    ascends_cons low smaller (put_in (max number next) l) (omega arith)
    (put_in_ascends smaller (max number next) l (omega arith) (ascends_lower next smaller l (omega arith) p.1))

pub ascends_sorted : (l : List ℕ) → ascends (sorted l) ≡ true
unfolding sorted ascends ascends_from
ascends_sorted [] = refl
ascends_sorted (number ∷ l) = put_in_ascends 0 number (sorted l) (omega arith) (ascends_sorted l)

-- The smaller and the larger are the two, in one order or the other; so what two numbers give in either order, these give.
in_either_order : (P : ℕ → ℕ → Type 0) (a b : ℕ) → P a b → P b a → P (min a b) (max a b)
in_either_order P a b this that = go (leb a b) refl
  where
    go : (t : Bool) → leb a b ≡ t → P (min a b) (max a b)
    go true e =
        let h = leb-true a b e in
        let low : min a b ≡ a = omega arith in
        let high : max a b ≡ b = omega arith in
        rw (low, high) this
    go false e =
        let h = leb-false a b e in
        let low : min a b ≡ b = omega arith in
        let high : max a b ≡ a = omega arith in
        rw (low, high) that

-- What the numbers weigh together stays, so how often each occurs does.
module _ (weight : ℕ → ℕ) where
  sum_put_in : (number : ℕ) (l : List ℕ) → sum_of weight (put_in number l) ≡ weight number + sum_of weight l
  unfolding put_in sum
  sum_put_in number [] = refl
  sum_put_in number (next ∷ l) =
      rw (sum_put_in (max number next) l)
      (in_either_order (λ a b. weight a + (weight b + sum_of weight l) ≡ weight number + (weight next + sum_of weight l)) number next refl (omega arith))

  pub sum_sorted : (l : List ℕ) → sum_of weight (sorted l) ≡ sum_of weight l
  unfolding sorted sum
  sum_sorted [] = refl
  sum_sorted (number ∷ l) = sum_put_in number (sorted l) ∙ ap (λ n. weight number + n) (sum_sorted l)

pub occurrences_sorted : (v : ℕ) (l : List ℕ) → occurrences v (sorted l) ≡ occurrences v l
occurrences_sorted v l = sym (sum_occurrences v (sorted l)) ∙ sum_sorted (λ number. same number v) l ∙ sum_occurrences v l

module _ (test : ℕ → Bool) where
  every_put_in : (number : ℕ) (l : List ℕ) → test number ≡ true → every test l ≡ true → every test (put_in number l) ≡ true
  unfolding put_in
  every_put_in number [] h e = every_cons test number [] h e
  every_put_in number (next ∷ l) h e =
      let p = every_uncons test next l e in
      let two : (test (min number next) ≡ true) × (test (max number next) ≡ true) =
      in_either_order (λ a b. (test a ≡ true) × (test b ≡ true)) number next (h, p.0) (p.0, h) in
      every_cons test (min number next) (put_in (max number next) l) two.0 (every_put_in (max number next) l two.1 p.1)

  pub every_sorted : (l : List ℕ) → every test l ≡ true → every test (sorted l) ≡ true
  unfolding sorted
  every_sorted [] e = e
  every_sorted (number ∷ l) e =
      let p = every_uncons test number l e in
      every_put_in number (sorted l) p.0 (every_sorted l p.1)

pub put_in_first : (number : ℕ) (l : List ℕ) → ascends_from number l ≡ true → put_in number l ≡ number ∷ l
unfolding put_in
put_in_first number [] e = refl
put_in_first number (next ∷ l) e =
    let p = ascends_uncons number next l e in
    let low : min number next ≡ number = omega arith in
    let high : max number next ≡ next = omega arith in
    rw (low, high, put_in_first next l p.1)

sorted_from : (low : ℕ) (l : List ℕ) → ascends_from low l ≡ true → sorted l ≡ l
unfolding sorted
sorted_from low [] e = refl
sorted_from low (number ∷ l) e =
    let p = ascends_uncons low number l e in
    rw (sorted_from number l p.1) (put_in_first number l p.1)

pub sorted_already : (l : List ℕ) → ascends l ≡ true → sorted l ≡ l
unfolding ascends
sorted_already l e = sorted_from 0 l e

-- A list sorted by std's `sort_unstable` is this one: the same numbers, in the one order that ascends.
pub sorts : (l m : List ℕ) → IsPermutation l m → IsSortedByKey (λ v. v) nat_cmp m → m ≡ sorted l
sorts l m moved up =
    one_order m (sorted l) (non_decreasing m (IsNonDecreasingBy-from_sort (λ v. v) m up)) (ascends_sorted l)
    (λ v. as_often l m moved v ∙ sym (occurrences_sorted v l))

-- A term rewritten is as long as it was.
pub length_rewriting : (triple : Triple) (parent : ℕ) (l : List ℕ) → length (rewriting triple parent l) ≡ length l
unfolding rewriting
length_rewriting triple parent l = length_sorted (map (replacement triple parent) l) ∙ length-map l (replacement triple parent)
