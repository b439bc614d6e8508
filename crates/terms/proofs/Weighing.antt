-- The weight of one term from the three counts, and of all terms row by row.
use mathlib.Core.Path.{◌≡◌, refl}
use mathlib.Core.Bool.{cond, ◌||◌}
use mathlib.Core.List.{List}
use Prim.Native.Nat.{ℕ, zero, suc, ◌+◌, ◌-◌, ◌*◌, ◌/◌, ◌%◌, ◌<◌, ◌≤◌}
use native.Mathlib.Omega.{arith}
use lib.Dec.{eqb}
use lib.ListN.{take, drop}
use Rattle.lists.specs.Counting.{sum, occurrences}
use Rattle.entities.specs.declared.Triple.{Triple}
use Rattle.terms.specs.Rows.{term, terms_of}
use Rattle.terms.specs.Weight.{term_letter, term_weight, weight_of, odd_ones, NoWeightChanges}
use Rattle.terms.proofs.LetterLaws.{not_none_counts}
use Rattle.terms.proofs.RowSteps.{terms_step, terms_end}

-- 0, 1, 2, 3 to 0, 1, 1, 0.
one_or_two : (odd : ℕ) → odd ≤ 3 → (odd + 1) / 2 % 2 ≡ cond (eqb odd 1 || eqb odd 2) 1 0
one_or_two zero h = refl
one_or_two (suc zero) h = refl
one_or_two (suc (suc zero)) h = refl
one_or_two (suc (suc (suc zero))) h = refl
one_or_two (suc (suc (suc (suc k)))) h = absurd (omega arith)

odd_few : (triple : Triple) (term : List ℕ) → odd_ones triple term ≤ 3
unfolding odd_ones
odd_few triple term = omega arith

-- "No weight … changes."
pub no_weight_changes : NoWeightChanges
unfolding term_weight term_letter odd_ones
no_weight_changes triple term = not_none_counts (occurrences triple.x term) (occurrences triple.y term) (occurrences triple.z term)

-- Along the rows: the weight of those passed and of those ahead is the weight of all.
module _ (triple : Triple) (w count place : ℕ) (rows : List ℕ) where
  pub weight_step : place < count
      → weight_of triple (terms_of w (count - place) (drop (w * place) rows))
      ≡ term_weight triple (term (take w (drop (w * place) rows)))
      + weight_of triple (terms_of w (count - (place + 1)) (drop (w * (place + 1)) rows))
  unfolding weight_of sum
  weight_step h = rw (terms_step w count place rows h)

  pub weight_end : count ≤ place → weight_of triple (terms_of w (count - place) (drop (w * place) rows)) ≡ 0
  unfolding weight_of sum
  weight_end h = rw (terms_end w count place rows h)

-- The weight from how many of the three are odd.
pub weighs_odd : (triple : Triple) (term : List ℕ) (odd : ℕ) → odd ≡ odd_ones triple term → (odd + 1) / 2 % 2 ≡ term_weight triple term
weighs_odd triple term odd e = rw (no_weight_changes triple term, ← e) (one_or_two odd (rw e (odd_few triple term)))
