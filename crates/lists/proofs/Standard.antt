-- Our words about lists are std's: what a method of a slice or an iterator answers, in our words.
use Rattle.std.proofs.Common.{◌≡◌, ℕ, ◌+◌, List, [], ◌∷◌, ◌++◌, add-one, Bool, true, false, cond, refl, zero, suc, ◌<◌, ◌≤◌, Some, length, get_or, nat_cmp, eqb, arith, rules}
use Rattle.std.proofs.lemmas.List.Recursion.{is_sum_by, is_count_by}
use Rattle.std.specs.List.{list_all, list_any, filter, prefix_len, count_by}
use mir.Val.{bool_byte}
use Rattle.std.specs.List.{IsAllAdjacentAnswer}
use Rattle.std.specs.List.Sorted.{IsNonDecreasing}
use Rattle.std.specs.Ordering.{is_le, is_some_and}
use Rattle.std.proofs.lemmas.List.Sorted.{non_decreasing_from_is_sorted}
use Rattle.std.specs.List.{sum as std_sum}
use Rattle.std.specs.Cmp.Lexicographic.{pointwise}
use Rattle.lists.specs.Members.{every, some_of, keep, leading, alike}
use Rattle.lists.specs.Ranges.{ascends_from, ascends}
use Rattle.lists.proofs.Tests.{not_so}
use Rattle.lists.proofs.Ascending.{ascends_cons, ascends_uncons, ascends_above}
use Rattle.lists.specs.Counting.{sum, same, occurrences}

-- `all`, `any`, `filter` and how many lead.
module _ {A : Type 0} (test : A → Bool) where
  pub every_is : (l : List A) → every test l ≡ list_all test l
  unfolding every
  every_is [] = refl
  every_is (a ∷ l) = rw (every_is l)

  pub some_is : (l : List A) → some_of test l ≡ list_any test l
  unfolding some_of
  some_is [] = refl
  some_is (a ∷ l) = rw (some_is l)

  pub keep_is : (l : List A) → keep test l ≡ filter test l
  unfolding keep
  keep_is [] = refl
  keep_is (a ∷ l) = rw (keep_is l) (go (test a) (filter test l))
    where
      go : (b : Bool) (rest : List A) → cond b (a ∷ []) [] ++ rest ≡ cond b (a ∷ rest) rest
      go true rest = refl
      go false rest = refl

  pub leading_is : (l : List A) → leading test l ≡ prefix_len test l
  unfolding leading
  leading_is [] = refl
  leading_is (a ∷ l) = rw (leading_is l) (search rules)

-- `==` of two slices of numbers.
pub alike_is : (l m : List ℕ) → alike l m ≡ pointwise eqb l m
unfolding alike
alike_is [] [] = refl
alike_is [] (b ∷ m) = refl
alike_is (a ∷ l) [] = refl
alike_is (a ∷ l) (b ∷ m) = rw (alike_is l m)

-- `sum`, and a filter's `count`.
pub sum_is : (l : List ℕ) → sum l ≡ std_sum l
unfolding sum
sum_is l = is_sum_by sum (λ v. v) refl (λ v m. refl) l

pub occurrences_is : (x : ℕ) (l : List ℕ) → occurrences x l ≡ count_by (λ v. eqb v x) l
unfolding occurrences same
occurrences_is x l = is_count_by (occurrences x) (λ v. eqb v x) refl (λ v m. go (eqb v x) (occurrences x m)) l
  where
    go : (b : Bool) (n : ℕ) → cond b 1 0 + n ≡ cond b (1 + n) n
    go true n = refl
    go false n = omega arith

-- What `is_sorted` answers of numbers.
ascends_each : (low : ℕ) (l : List ℕ) → ascends_from low l ≡ true → (k : ℕ) → suc k < length l → get_or l k 0 ≤ get_or l (suc k) 0
ascends_each low [] e k h = absurd (omega arith)
ascends_each low (v ∷ l) e zero h = ascends_above v l (ascends_uncons low v l e).1 0 (omega arith)
ascends_each low (v ∷ l) e (suc k) h = ascends_each v l (ascends_uncons low v l e).1 k (omega arith)

rises : (low : ℕ) (l : List ℕ) → ((k : ℕ) → k < length l → low ≤ get_or l k 0) → IsNonDecreasing l → ascends_from low l ≡ true
unfolding ascends_from
rises low [] above up = refl
rises low (v ∷ l) above up =
    ascends_cons low v l (above 0 (omega arith))
    (rises v l (λ k h. up 0 (suc k) 0 (omega arith) (omega arith)) (λ i j d h k. up (suc i) (suc j) d (omega arith) (omega arith)))

pub non_decreasing : (l : List ℕ) → IsNonDecreasing l → ascends l ≡ true
unfolding ascends
non_decreasing l up = rises 0 l (λ k h. omega arith) up

pub ascends_is : (l : List ℕ) (answer : Bool) → IsAllAdjacentAnswer (λ x y b. is_some_and is_le (Some (nat_cmp x y)) ≡ b) l answer → ascends l ≡ answer
unfolding ascends
ascends_is l true h = non_decreasing l (non_decreasing_from_is_sorted l true h)
ascends_is l false h =
    let k = non_decreasing_from_is_sorted l false h in
    not_so (ascends l) (λ e. let up = ascends_each 0 l e k.0 (omega (arith, k.1)) in absurd (omega (arith, rw add-one at (k.2 0))))

-- A test as a number.
pub same_is : (v x : ℕ) → (bool_byte (eqb v x) ≡ same v x) × (same v x ≤ 1)
unfolding same
same_is v x = go (eqb v x)
  where
    go : (b : Bool) → (bool_byte b ≡ cond b 1 0) × (cond b 1 0 ≤ 1)
    go true = (refl, omega arith)
    go false = (refl, omega arith)
