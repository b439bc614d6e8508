-- The leaves of each mode weighed with z row by row: what the table has of the rows passed, and what those ahead weigh, are all.
use mathlib.Core.Path.{◌≡◌, refl, ap}
use mathlib.Core.List.{List, []}
use Prim.Native.Nat.{ℕ, zero, suc, ◌+◌, ◌-◌, ◌*◌, ◌%◌, ◌<◌, ◌≤◌}
use native.Mathlib.Omega.{arith}
use lib.ListN.{length, get_or, take, drop}
use Rattle.lists.specs.Counting.{occurrences}
use Rattle.terms.specs.Rows.{term, terms_of}
use Rattle.terms.specs.Weight.{term_weight, weight_of, odd_ones}
use Rattle.terms.proofs.RowSteps.{terms_start}
use Rattle.terms.proofs.Weighing.{weight_step, weight_end, weighs_odd}
use Rattle.terms.proofs.WeightBound.{term_weight_at_most}
use Rattle.tallying.specs.code.Pairs.{pair_with, beside, RowWeighed, Lifted, PairsWeighed}

-- Before the first number of a term the leaves weigh as much as z, and with all of them what 01 says.
pub beside_none : (odd k : ℕ) → odd ≤ 1 → beside odd k [] ≡ odd
unfolding beside occurrences
beside_none zero k h = refl
beside_none (suc zero) k h = refl
beside_none (suc (suc odd)) k h = absurd (omega arith)

pub beside_all : (odd z k : ℕ) (term : List ℕ) → odd ≡ occurrences z term % 2 → beside odd k term ≡ term_weight (pair_with z k) term
unfolding beside odd_ones
beside_all odd z k term e =
    weighs_odd (pair_with z k) term (occurrences (2 * k) term % 2 + occurrences (2 * k + 1) term % 2 + odd)
    (ap (λ o. occurrences (2 * k) term % 2 + occurrences (2 * k + 1) term % 2 + o) e)

module _ (count : ℕ) (rows : List ℕ) (z : ℕ) where
  pub record Weighing (length₀ : ℕ) (table : List ℕ) (odd place : ℕ) : Type 0 where
    pub within : place ≤ count
    pub same_length : length table ≡ length₀
    pub few : odd ≤ place
    pub above : (k : ℕ) → k < length₀ → count ≤ get_or table k 0 + place
    pub below : (k : ℕ) → k < length₀ → get_or table k 0 ≤ count + place
    pub weighs : (k : ℕ) → k < length₀
        → get_or table k 0 + odd + weight_of (pair_with z k) (terms_of 8 (count - place) (drop (8 * place) rows))
        ≡ count + weight_of (pair_with z k) (terms_of 8 count rows)

  pub weighing_starts : (table : List ℕ) → ((k : ℕ) → k < length table → get_or table k 0 ≡ count) → Weighing (length table) table 0 0
  weighing_starts table filled =
      record {
        within = omega arith;
        same_length = refl;
        few = omega arith;
        above = λ k h. omega (arith, filled k h);
        below = λ k h. omega (arith, filled k h);
        weighs = λ k h. omega (arith, filled k h, ap (weight_of (pair_with z k)) (terms_start 8 count rows));
      }

  module _ (length₀ : ℕ) (table : List ℕ) (odd place : ℕ) (so_far : Weighing length₀ table odd place) where
    pub weighing_on : place < count → (after : List ℕ) (one : ℕ) → RowWeighed (term (take 8 (drop (8 * place) rows))) z table after one
        → Weighing length₀ after (odd + one) (place + 1)
    weighing_on h after one row =
        let same = so_far.same_length in
        let low : one ≤ 1 = omega (arith, row.odd_is) in
        record {
          within = omega arith;
          same_length = omega (arith, row.same_length);
          few = omega (arith, so_far.few);
          above = λ k l. omega (arith, so_far.above k l, row.weighs k (omega arith));
          below = λ k l.
              omega (arith, so_far.below k l, row.weighs k (omega arith), term_weight_at_most (pair_with z k) (term (take 8 (drop (8 * place) rows))));
          weighs = λ k l. omega (arith, so_far.weighs k l, row.weighs k (omega arith), weight_step (pair_with z k) 8 count place rows h);
        }

    module _ (h : count ≤ place) where
      pub weighing_fits : count ≤ 2048 → (k : ℕ) → k < length table → (count ≤ get_or table k 0 + odd) × (get_or table k 0 + odd < 65536)
      weighing_fits few k l =
          let same = so_far.same_length in (
            omega (arith, so_far.weighs k (omega arith), weight_end (pair_with z k) 8 count place rows h),
            omega (arith, so_far.below k (omega arith), so_far.few, so_far.within),
          )

      pub weighing_ends : (after : List ℕ) → Lifted odd count table after → PairsWeighed (length after) (terms_of 8 count rows) z after
      weighing_ends after lifted k l =
          let same = so_far.same_length in
          let still = lifted.same_length in
          omega (arith, lifted.lifted k (omega arith), so_far.weighs k (omega arith), weight_end (pair_with z k) 8 count place rows h)
