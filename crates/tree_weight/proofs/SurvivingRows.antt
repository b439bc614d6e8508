-- The rows' surviving indices put one row behind the other: each is that of its row.
use mathlib.Core.Path.{◌≡◌, refl, ◌∙◌, sym, ap}
use mathlib.Core.Bool.{true}
use mathlib.Core.List.{List, [], ◌∷◌, map, map-append}
use Prim.Native.Nat.{ℕ, zero, suc, ◌+◌, ◌-◌, ◌*◌, ◌<◌, ◌≤◌}
use native.Mathlib.Nat.{add-zero}
use native.Mathlib.Omega.{arith}
use lib.Dec.{ltb}
use lib.ListN.{length, take, drop}
use Rattle.lists.specs.Members.{every}
use Rattle.lists.specs.Written.{written_at}
use Rattle.terms.specs.Rows.{rows_of, term, terms_of}
use Rattle.terms.specs.Counted.{row_of, counted_of, counted}
use Rattle.terms.specs.code.Held.{Held, Worked}
use Rattle.terms.proofs.CountedRows.{counted_none, counted_more, counted_put}
use Rattle.terms.proofs.RowPut.{held_none, put_held, put_terms, put_length}
use Rattle.terms.proofs.RowSteps.{terms_more, every_term_at, held_fewer}
use Rattle.reduction.proofs.CountedReduction.{counted_joined, counted_empty, counted_one}
use Rattle.tree_weight.specs.Operators.{surviving}
use Rattle.tree_weight.specs.code.Promises.{SurvivingRow, SurvivingRows}

pub record Putting (count : ℕ) (rows before own : List ℕ) (place : ℕ) : Type 0 where
  pub inside : place ≤ count
  pub same_length : length own ≡ length before
  pub held : Held 9 place own
  pub no_counts : counted (counted_of place own) ≡ 0
  pub terms : (bound : ℕ) → every (every (λ index. ltb index bound)) (terms_of 8 count rows) ≡ true
      → terms_of 9 place own ≡ map (surviving bound) (terms_of 8 place rows)

module _ (count : ℕ) (rows before : List ℕ) where
  pub putting_starts : Putting count rows before before 0
  unfolding terms_of rows_of
  putting_starts = record {
    inside = omega arith;
    same_length = refl;
    held = held_none 9 before (omega arith);
    no_counts = ap counted (counted_none before) ∙ counted_empty;
    terms = λ bound below. refl;
  }

  module _ (own : List ℕ) (place : ℕ) (putting : Putting count rows before own place) where
    module _ (more : place < count) (room : 9 * count ≤ length before) where
      pub own_room : 9 * place + 9 ≤ length own
      own_room = omega (arith, putting.same_length)

      pub putting_on : (row : List ℕ) → SurvivingRow (term (take 8 (drop (8 * place) rows))) row
          → Putting count rows before (written_at (9 * place) row own) (place + 1)
      unfolding row_of
      putting_on row new = record {
        inside = omega (arith, more);
        same_length = put_length 9 place own row putting.held own_room new.whole ∙ putting.same_length;
        held = put_held 9 place own row putting.held own_room new.whole new.within new.zeros;
        no_counts =
            ap counted (counted_put place own row putting.held own_room new.whole)
            ∙ omega (arith, counted_joined (counted_of place own) (row_of row ∷ []), counted_one (row_of row), putting.no_counts, new.no_count);
        terms = λ bound below.
            put_terms 9 place own row putting.held own_room new.whole
            ∙ rw (putting.terms bound below, new.new_term bound (every_term_at (every (λ index. ltb index bound)) 8 count place rows below more))
            (sym
            (ap (map (surviving bound)) (terms_more 8 place rows)
            ∙ map-append (surviving bound) (terms_of 8 place rows) (term (take 8 (drop (8 * place) rows)) ∷ [])));
      }

    pub putting_ends : count ≤ place → SurvivingRows count rows own
    putting_ends over =
        let all : place ≡ count = omega (arith, putting.inside) in
        record { held = rw all at putting.held; no_counts = rw all at putting.no_counts; terms = rw all at putting.terms }

-- Any first ones of them can be reduced: what they count is at most what all do, and that is nothing.
counted_fewer : (s : List ℕ) (fewer more : ℕ) → counted (counted_of fewer s) ≤ counted (counted_of (fewer + more) s)
counted_fewer s fewer zero = rw (add-zero fewer) (omega arith)
counted_fewer s fewer (suc more) =
    let next : fewer + suc more ≡ fewer + more + 1 = omega arith in
    let row = row_of (take 9 (drop (9 * (fewer + more)) s)) in
    rw (next, counted_more (fewer + more) s)
    (omega (arith, counted_fewer s fewer more, counted_joined (counted_of (fewer + more) s) (row ∷ [])))

pub survive_worked : (fewer count : ℕ) (rows own : List ℕ) → fewer ≤ count → SurvivingRows count rows own → Worked fewer own
survive_worked fewer count rows own h survive =
    let all : fewer + (count - fewer) ≡ count = omega arith in
    record {
      held = held_fewer 9 fewer count own h survive.held;
      few = omega (arith, rw all at (counted_fewer own fewer (count - fewer)), survive.no_counts);
    }
