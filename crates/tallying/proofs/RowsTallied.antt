-- A couple tallied row by row: what was counted in the rows passed, and what those ahead weigh, give what all weigh.
use Rattle.std.specs.Prelude.{Some}
use mathlib.Core.Path.{◌≡◌, refl, ap}
use mathlib.Core.List.{List}
use Prim.Native.Nat.{ℕ, ◌+◌, ◌-◌, ◌*◌, ◌/◌, ◌%◌, ◌<◌, ◌≤◌}
use native.Mathlib.Omega.{arith}
use lib.ListN.{length, get_or, take, drop}
use Rattle.entities.specs.declared.Triple.{Triple}
use Rattle.terms.specs.Rows.{term, terms_of}
use Rattle.terms.specs.Weight.{weight_of}
use Rattle.terms.proofs.RowSteps.{terms_start, length_terms}
use Rattle.terms.proofs.Weighing.{weight_step, weight_end}
use Rattle.tallying.specs.code.Tallies.{odds, OddsAre, RowTallied, Tallied, Looked}
use Rattle.tallying.proofs.OddRows.{odds_step, odds_end}

module _ (count : ℕ) (rows : List ℕ) (x y : ℕ) where
  abbrev pub with : ℕ → Triple
  with z = record { x = x; y = y; z = z }

  abbrev pub ahead : ℕ → List (List ℕ)
  ahead place = terms_of 8 (count - place) (drop (8 * place) rows)

  abbrev pub whole : List (List ℕ)
  whole = terms_of 8 count rows

  pub record Tallying (length₀ : ℕ) (less : List ℕ) (all apart place : ℕ) : Type 0 where
    pub within : place ≤ count
    pub same_length : length less ≡ length₀
    pub few : all ≤ place
    pub fewer : apart ≤ place
    pub low : (z : ℕ) → z < length₀ → get_or less z 0 ≤ 2 * place
    pub bound : (z : ℕ) → apart + weight_of (with z) (ahead place) ≤ weight_of (with z) whole
    pub counts : (z : ℕ) → z < length₀
        → all + odds z whole + weight_of (with z) (ahead place) ≡ weight_of (with z) whole + get_or less z 0 + odds z (ahead place)

  pub tallying_starts : (less : List ℕ) → ((z : ℕ) → z < length less → get_or less z 0 ≡ 0) → Tallying (length less) less 0 0 0
  tallying_starts less zeros =
      let start = terms_start 8 count rows in
      record {
        within = omega arith;
        same_length = refl;
        few = omega arith;
        fewer = omega arith;
        low = λ z h. omega (arith, zeros z h);
        bound = λ z. omega (arith, ap (weight_of (with z)) start);
        counts = λ z h. omega (arith, zeros z h, ap (weight_of (with z)) start, ap (odds z) start);
      }

  module _ (length₀ : ℕ) (less : List ℕ) (all apart place : ℕ) (so_far : Tallying length₀ less all apart place) (h : place < count) where
    -- One row more.
    pub tallied_on : (after : List ℕ) (odd : ℕ) → RowTallied (term (take 8 (drop (8 * place) rows))) x y less after odd
        → Tallying length₀ after (all + (odd + 1) / 2) (apart + odd % 2) (place + 1)
    tallied_on after odd row =
        let same = so_far.same_length in
        let most = row.most in
        record {
          within = omega arith;
          same_length = omega (arith, row.same_length);
          few = omega (arith, so_far.few);
          fewer = omega (arith, so_far.fewer);
          low = λ z k. omega (arith, so_far.low z k, row.up z (omega arith));
          bound = λ z. omega (arith, so_far.bound z, row.apart z, weight_step (with z) 8 count place rows h);
          counts = λ z k.
              omega
              (arith, so_far.counts z k, row.weighs z (omega arith), weight_step (with z) 8 count place rows h, odds_step z count place rows h);
        }

  module _ (length₀ : ℕ) (less : List ℕ) (all apart place : ℕ) (so_far : Tallying length₀ less all apart place) (h : count ≤ place) where
    pub tallying_ends : (all ≤ length whole)
        × ((z : ℕ) → z < length₀ → all + odds z whole ≡ weight_of (with z) whole + get_or less z 0)
        × ((z : ℕ) → apart ≤ weight_of (with z) whole)
    tallying_ends = (
      omega (arith, so_far.few, so_far.within, length_terms 8 count rows),
      λ z k. omega (arith, so_far.counts z k, weight_end (with z) 8 count place rows h, odds_end z count place rows h),
      λ z. omega (arith, so_far.bound z),
    )

-- A couple's tally and the odds of all rows give its weight with any z that both tables reach.
pub looked_up : (terms : List (List ℕ)) (x y limit all bound room : ℕ) (table less : List ℕ) → OddsAre room terms table → length less ≡ room
    → Tallied terms x y limit less (Some (record { all = all; apart = bound })) → Looked room (λ triple. weight_of triple terms) x y all table less
looked_up terms x y limit all bound room table less counted whole tallied z h = omega (arith, tallied.1 z (omega arith), counted z h)
