-- What chains over a range, and a search for the first element that fails a test, answer in our words.
use Rattle.std.proofs.Common.{Option, Some, None, ◌≡◌, Bool, true, false, cond, not, List, [], ◌∷◌, map, map-id, length, ℕ, zero, suc, ◌+◌, ◌*◌, ◌≤◌, ltb, refl, ap, ◌∙◌, arith, add-one, ltb-false}
use Rattle.std.proofs.lemmas.List.FromFn.{length-range_with_len}
use Rattle.std.proofs.lemmas.List.Sums.{prefix_len-le-length, sum_by-le, sum-map}
use Rattle.std.specs.List.{sum_by, prefix_len, position, range_with_len}
use Rattle.std.specs.Option.{unwrap_or}
use Rattle.lists.specs.Counting.{sum}
use Rattle.lists.specs.Members.{leading}
use Rattle.lists.specs.Ranges.{listed}
use Rattle.lists.proofs.Standard.{sum_is}

-- What a rule lists is the rule at each number from one on.
pub listed_is : {A : Type 0} (rule : ℕ → A) (from count : ℕ) → listed rule from count ≡ map rule (range_with_len from count)
unfolding listed
listed_is rule from zero = refl
listed_is rule from (suc count) = rw add-one (ap (λ l. rule from ∷ l) (listed_is rule (suc from) count))

pub counted_is : (from count : ℕ) → listed (λ v. v) from count ≡ range_with_len from count
counted_is from count = listed_is (λ v. v) from count ∙ map-id (range_with_len from count)

-- A rule's values over the numbers below a count: their sum as std's, and how large it can be.
module _ (rule : ℕ → ℕ) (count : ℕ) where
  pub summed_is : sum (map rule (listed (λ v. v) 0 count)) ≡ sum_by rule (range_with_len 0 count)
  summed_is = rw (counted_is, sum_is, sum-map)

  pub summed_few : (most : ℕ) → ((v : ℕ) → rule v ≤ most) → sum_by rule (range_with_len 0 count) ≤ count * most
  summed_few most each = rw length-range_with_len at (sum_by-le rule most (range_with_len 0 count) (λ k d h. each _))

-- The place of the first element that fails a test, or the length, is how many lead.
module _ {A : Type 0} (test fails : A → Bool) (opposite : (a : A) → fails a ≡ not (test a)) where
  before_failing : (l : List A) → prefix_len (λ a. not (fails a)) l ≡ leading test l
  unfolding leading
  before_failing [] = refl
  before_failing (a ∷ l) = rw (before_failing l, opposite a) (step (test a) (leading test l))
    where
      step : (b : Bool) (n : ℕ) → cond (not (not b)) (1 + n) 0 ≡ cond b (suc n) 0
      step true n = omega arith
      step false n = refl

  pub first_failing : (l : List A) (r : Option ℕ) → r ≡ position fails l → unwrap_or r (length l) ≡ leading test l
  first_failing l r is = rw is (go (ltb (prefix_len (λ a. not (fails a)) l) (length l)) refl)
    where
      go : (b : Bool) → ltb (prefix_len (λ a. not (fails a)) l) (length l) ≡ b
          → unwrap_or (cond b (Some (prefix_len (λ a. not (fails a)) l)) None) (length l) ≡ leading test l
      go true e = before_failing l
      go false e =
          let low = ltb-false (prefix_len (λ a. not (fails a)) l) (length l) e in
          let all : length l ≡ prefix_len (λ a. not (fails a)) l = omega (arith, prefix_len-le-length (λ a. not (fails a)) l) in
          all ∙ before_failing l

-- The same over the numbers below a count.
pub first_failing_below : (test fails : ℕ → Bool) → ((v : ℕ) → fails v ≡ not (test v)) → (count : ℕ) (r : Option ℕ)
    → r ≡ position fails (range_with_len 0 count) → unwrap_or r count ≡ leading test (listed (λ v. v) 0 count)
first_failing_below test fails opposite count r is =
    rw (counted_is 0 count) (rw length-range_with_len at (first_failing test fails opposite (range_with_len 0 count) r is))
