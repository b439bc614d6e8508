-- In how many rows a number is odd, row by row; and one row tallied.
use mathlib.Core.Path.{◌≡◌, refl, ap, sym, ◌∙◌}
use mathlib.Core.List.{List}
use Prim.Native.Nat.{ℕ, zero, suc, ◌+◌, ◌-◌, ◌*◌, ◌/◌, ◌%◌, ◌<◌, ◌≤◌}
use native.Mathlib.Omega.{arith}
use lib.ListN.{length, get_or, take, drop, replicate, length-replicate, get_or-replicate}
use Rattle.lists.specs.Counting.{sum, occurrences}
use Rattle.entities.specs.declared.Triple.{Triple}
use Rattle.terms.specs.Rows.{term, terms_of}
use Rattle.terms.specs.Weight.{term_weight, odd_ones}
use Rattle.terms.proofs.RowSteps.{terms_step, terms_end}
use Rattle.terms.proofs.Weighing.{weighs_odd}
use Rattle.tallying.specs.code.Tallies.{odds, Raised, RowTallied}

module _ (n count place : ℕ) (rows : List ℕ) where
  pub odds_step : place < count
      → odds n (terms_of 8 (count - place) (drop (8 * place) rows))
      ≡ occurrences n (term (take 8 (drop (8 * place) rows))) % 2
      + odds n (terms_of 8 (count - (place + 1)) (drop (8 * (place + 1)) rows))
  unfolding odds sum
  odds_step h = rw (terms_step 8 count place rows h)

  pub odds_end : count ≤ place → odds n (terms_of 8 (count - place) (drop (8 * place) rows)) ≡ 0
  unfolding odds sum
  odds_end h = rw (terms_end 8 count place rows h)

-- A table that was filled with zeros.
pub filled_zero : (table : List ℕ) (count : ℕ) → table ≡ replicate count 0 → (n : ℕ) → n < length table → get_or table n 0 ≡ 0
filled_zero table count e n h = rw e (get_or-replicate count n 0 0 (omega (arith, ap length e ∙ length-replicate count 0)))

-- z's own parity beside none, one and two odd ones: it is the weight, it doesn't matter, it takes the weight off.
beside_none : (own : ℕ) → own ≤ 1 → (0 + own + 1) / 2 % 2 ≡ own
beside_none zero h = refl
beside_none (suc zero) h = refl
beside_none (suc (suc own)) h = absurd (omega arith)

beside_one : (own : ℕ) → own ≤ 1 → (1 + own + 1) / 2 % 2 ≡ 1
beside_one zero h = refl
beside_one (suc zero) h = refl
beside_one (suc (suc own)) h = absurd (omega arith)

beside_two : (own : ℕ) → own ≤ 1 → (2 + own + 1) / 2 % 2 + own ≡ 1
beside_two zero h = refl
beside_two (suc zero) h = refl
beside_two (suc (suc own)) h = absurd (omega arith)

-- One row, in which so many of x and y are odd.
module _ (term : List ℕ) (x y odd : ℕ) (is : odd ≡ occurrences x term % 2 + occurrences y term % 2) where
  with_z : ℕ → Triple
  with_z z = record { x = x; y = y; z = z }

  weighs : (known z : ℕ) → odd ≡ known → (known + occurrences z term % 2 + 1) / 2 % 2 ≡ term_weight (with_z z) term
  unfolding with_z odd_ones
  weighs known z e = weighs_odd (with_z z) term (known + occurrences z term % 2) (ap (λ o. o + occurrences z term % 2) (sym e ∙ is))

  pub tallied_none : odd ≡ 0 → (table : List ℕ) → RowTallied term x y table table odd
  unfolding with_z
  tallied_none e table =
      record {
        same_length = refl;
        most = omega arith;
        apart = λ z. rw e (omega arith);
        up = λ z h. omega arith;
        weighs = λ z h. rw e (let own = beside_none (occurrences z term % 2) (omega arith) in let w = weighs 0 z e in omega arith);
      }

  pub tallied_one : odd ≡ 1 → (before after : List ℕ) → Raised term before after → RowTallied term x y before after odd
  unfolding with_z
  tallied_one e before after once =
      record {
        same_length = once.same_length;
        most = omega arith;
        apart = λ z. rw e (let own = beside_one (occurrences z term % 2) (omega arith) in let w = weighs 1 z e in omega arith);
        up = λ z h. omega (arith, once.raised z h);
        weighs = λ z h.
            rw e
            (let own = beside_one (occurrences z term % 2) (omega arith) in let w = weighs 1 z e in omega (arith, once.raised z h));
      }

  pub tallied_two : odd ≡ 2 → (before between after : List ℕ) → Raised term before between → Raised term between after
      → RowTallied term x y before after odd
  unfolding with_z
  tallied_two e before between after once again =
      record {
        same_length = again.same_length ∙ once.same_length;
        most = omega arith;
        apart = λ z. rw e (omega arith);
        up = λ z h. omega (arith, once.raised z h, again.raised z (omega (arith, once.same_length)));
        weighs = λ z h.
            rw e
            (let own = beside_two (occurrences z term % 2) (omega arith) in
            let w = weighs 2 z e in
            omega (arith, once.raised z h, again.raised z (omega (arith, once.same_length))));
      }
