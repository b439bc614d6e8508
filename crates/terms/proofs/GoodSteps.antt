-- What makes a row bad, and the check's steps along the rows.
use mathlib.Core.Path.{◌≡◌}
use mathlib.Core.Bool.{true, false, ◌&&◌}
use mathlib.Core.List.{List}
use Prim.Native.Nat.{ℕ, ◌+◌, ◌-◌, ◌*◌, ◌/◌, ◌<◌, ◌≤◌}
use native.Mathlib.Nat.{sub-zero, zero-add}
use native.Mathlib.Numerals.{add-one}
use native.Mathlib.Omega.{arith}
use borrow.Author.Tests.{ltb-true, lt-ltb, le-leb, lt-leb}
use lib.Dec.{eqb, ltb}
use lib.ListN.{get_or, take, drop}
use Rattle.lists.specs.Members.{every, leading}
use Rattle.lists.proofs.Tests.{same_test}
use Rattle.terms.specs.Rows.{rows_of, term}
use Rattle.terms.specs.Good.{good_indices, good_row, good_rows}
use Rattle.terms.proofs.RowSteps.{rows_step}

-- A number is below twice another where its half is below that one.
pub half_below : (number bound : ℕ) → ltb (number / 2) bound ≡ ltb number (2 * bound)
half_below number bound =
    same_test _ _ (λ e. let h = ltb-true _ _ e in lt-ltb _ _ (omega arith)) (λ e. let h = ltb-true _ _ e in lt-ltb _ _ (omega arith))

-- What makes a row of eight bad, in the order of the tests.
module _ (bound : ℕ) (row : List ℕ) where
  pub row_empty : get_or row 0 0 < 1 → good_row bound row ≡ false
  unfolding good_row
  row_empty h = rw (lt-leb 1 (get_or row 0 0) h)

  pub row_long : 1 ≤ get_or row 0 0 → 7 < get_or row 0 0 → good_row bound row ≡ false
  unfolding good_row
  row_long h k = rw (le-leb 1 (get_or row 0 0) h, lt-leb (get_or row 0 0) 7 k)

  pub row_within : 1 ≤ get_or row 0 0 → get_or row 0 0 ≤ 7
      → good_row bound row ≡ (good_indices bound (term row) && every (λ number. eqb number 0) (drop (get_or row 0 0 + 1) row))
  unfolding good_row
  row_within h k = rw (le-leb 1 (get_or row 0 0) h, le-leb (get_or row 0 0) 7 k, add-one)

pub rows_start : (bound count : ℕ) (numbers : List ℕ) → good_rows bound count numbers ≡ 0 + good_rows bound (count - 0) (drop (8 * 0) numbers)
rows_start bound count numbers = rw (sub-zero, zero-add)

-- Along the rows: the good ones passed so far and those ahead are all the good ones.
module _ (bound count place : ℕ) (numbers : List ℕ) where
  pub rows_pass : place < count → good_row bound (take 8 (drop (8 * place) numbers)) ≡ true
      → place + good_rows bound (count - place) (drop (8 * place) numbers)
      ≡ place + 1 + good_rows bound (count - (place + 1)) (drop (8 * (place + 1)) numbers)
  unfolding good_rows leading
  rows_pass h e = rw (rows_step 8 count place numbers h, e) (omega arith)

  pub rows_stop : place < count → good_row bound (take 8 (drop (8 * place) numbers)) ≡ false
      → good_rows bound (count - place) (drop (8 * place) numbers) ≡ 0
  unfolding good_rows leading
  rows_stop h e = rw (rows_step 8 count place numbers h, e)

  pub rows_end : count ≤ place → good_rows bound (count - place) (drop (8 * place) numbers) ≡ 0
  unfolding good_rows leading rows_of
  rows_end h = let e : count - place ≡ 0 = omega arith in rw e
