-- Terms that the check accepted are good.
use Rattle.std.specs.Prelude.{Ok}
use mathlib.Core.Path.{◌≡◌, refl, sym}
use mathlib.Core.Bool.{Bool, true, false, ◌&&◌, and-eq-true_iff}
use mathlib.Core.List.{List, []}
use Prim.Native.Nat.{ℕ, zero, suc, ◌*◌, ◌/◌, ◌%◌, ◌<◌, ◌≤◌}
use native.Mathlib.Omega.{arith}
use borrow.Author.Tests.{eqb-true, ltb-false, leb-true, le-leb}
use lib.Dec.{eqb, ltb, leb}
use lib.ListN.{length, get_or, take, drop, length-drop}
use lib.Seq.{length-take-le}
use Rattle.lists.specs.Members.{every}
use Rattle.lists.specs.Ranges.{ascends}
use Rattle.lists.proofs.Every.{every_at, every_cons, every_uncons, every_leading}
use Rattle.terms.specs.Rows.{rows_of, term, terms_of}
use Rattle.terms.specs.code.Held.{Given}
use Rattle.terms.specs.Good.{good_indices, good_row, good_term, good_rows, checked}
use Rattle.terms.proofs.RowSteps.{row_first, length_term, length_rows, rows_at}

-- The facts of a good term.
pub record GoodTerm (bound : ℕ) (term : List ℕ) : Type 0 where
  pub some : 1 ≤ length term
  pub few : length term ≤ 7
  pub ascending : ascends term ≡ true
  pub below : every (λ index. ltb index bound) term ≡ true

module _ (bound : ℕ) where
  pub good_term_says : (term : List ℕ) → good_term bound term ≡ true → GoodTerm bound term
  unfolding good_term good_indices
  good_term_says term e =
      let p = (and-eq-true_iff (leb 1 (length term)) (leb (length term) 7 && good_indices bound term)).0 e in
      let q = (and-eq-true_iff (leb (length term) 7) (good_indices bound term)).0 p.1 in
      let r = (and-eq-true_iff (ascends term) (every (λ index. ltb index bound) term)).0 q.1 in
      record {
        some = leb-true 1 (length term) p.0;
        few = leb-true (length term) 7 q.0;
        ascending = r.0;
        below = r.1;
      }

  pub good_term_from : (term : List ℕ) → GoodTerm bound term → good_term bound term ≡ true
  unfolding good_term good_indices
  good_term_from term g = rw (le-leb 1 (length term) g.some, le-leb (length term) 7 g.few, g.ascending) g.below

  -- A good row's first number is within the row, and its term is good.
  module _ (row : List ℕ) (good : good_row bound row ≡ true) where
    row_says : (1 ≤ get_or row 0 0) × (get_or row 0 0 ≤ 7) × (good_indices bound (term row) ≡ true)
    unfolding good_row
    row_says =
        let p = (and-eq-true_iff (leb 1 (get_or row 0 0)) _).0 good in
        let q = (and-eq-true_iff (leb (get_or row 0 0) 7) _).0 p.1 in
        let r = (and-eq-true_iff (good_indices bound (term row)) _).0 q.1 in
        (leb-true 1 (get_or row 0 0) p.0, leb-true (get_or row 0 0) 7 q.0, r.0)

    row_term : length row ≡ 8 → good_term bound (term row) ≡ true
    unfolding good_term
    row_term h =
        let says = row_says in
        let same = length_term row (omega arith) in
        rw (same, le-leb 1 (get_or row 0 0) says.0, le-leb (get_or row 0 0) 7 says.1) says.2

  good_terms : (count : ℕ) (s : List ℕ) → 8 * count ≤ length s → every (good_row bound) (rows_of 8 count s) ≡ true
      → every (good_term bound) (terms_of 8 count s) ≡ true
  unfolding terms_of rows_of every
  good_terms zero s h e = refl
  good_terms (suc count) s h e =
      let p = every_uncons (good_row bound) (take 8 s) (rows_of 8 count (drop 8 s)) e in
      every_cons (good_term bound) (term (take 8 s)) (terms_of 8 count (drop 8 s))
      (row_term (take 8 s) p.0 (length-take-le 8 s (omega arith)))
      (good_terms count (drop 8 s) (simp length-drop (omega arith)) p.1)

  good_given : (count : ℕ) (s : List ℕ) → 8 * count ≤ length s → every (good_row bound) (rows_of 8 count s) ≡ true → Given count s
  good_given count s h e =
      let says : (place : ℕ) → place < count → (1 ≤ get_or s (8 * place) 0) × (get_or s (8 * place) 0 ≤ 7) =
      λ place k.
      let good : good_row bound (take 8 (drop (8 * place) s)) ≡ true =
      rw (rows_at 8 count place s k) at (every_at (good_row bound) (rows_of 8 count s) place [] (rw (length_rows 8 count s) k) e) in
      let told = row_says (take 8 (drop (8 * place) s)) good in
      let first = row_first 8 place s (omega arith) (omega arith) in
      (omega (arith, told.0, first), omega (arith, told.1, first)) in
      record {
        held =
            record {
              wide = omega arith;
              room = h;
              within = λ place k. omega (arith, (says place k).1);
              zeros = λ place k none. absurd (omega (arith, (says place k).0, none));
            };
        there = λ place k. omega (arith, (says place k).0);
      }

-- What the check's acceptance of so many rows says of the numbers.
pub record Accepted (modes : ℕ) (numbers : List ℕ) (count : ℕ) : Type 0 where
  pub rows : count ≡ length numbers / 8
  pub whole : length numbers ≡ 8 * count
  pub at_most : count ≤ 2048
  pub given : Given count numbers
  pub good : every (good_term (2 * modes)) (terms_of 8 count numbers) ≡ true

module _ (modes : ℕ) (numbers : List ℕ) (count : ℕ) where
  from_rows : count ≡ length numbers / 8 → length numbers % 8 ≡ 0 → count ≤ 2048 → count ≤ good_rows (2 * modes) count numbers
      → Accepted modes numbers count
  unfolding good_rows
  from_rows rows whole most all =
      let good = every_leading (good_row (2 * modes)) (rows_of 8 count numbers) (rw (length_rows 8 count numbers) all) in
      record {
        rows = rows;
        whole = omega arith;
        at_most = most;
        given = good_given (2 * modes) count numbers (omega arith) good;
        good = good_terms (2 * modes) count numbers (omega arith) good;
      }

  pub accepted : checked modes numbers ≡ Ok count → Accepted modes numbers count
  unfolding checked
  accepted e =
      go (eqb (length numbers % 8) 0) refl (leb (length numbers / 8) 2048) refl
      (ltb (good_rows (2 * modes) (length numbers / 8) numbers) (length numbers / 8)) refl
    where
      go : (p : Bool) → eqb (length numbers % 8) 0 ≡ p → (q : Bool) → leb (length numbers / 8) 2048 ≡ q
          → (r : Bool) → ltb (good_rows (2 * modes) (length numbers / 8) numbers) (length numbers / 8) ≡ r → Accepted modes numbers count
      go false ep q eq r er = let f = rw ep at e in let z : ◌≡◌ {A = ℕ} 0 1 = cc in absurd (omega arith)
      go true ep false eq r er = let f = rw (ep, eq) at e in let z : ◌≡◌ {A = ℕ} 0 1 = cc in absurd (omega arith)
      go true ep true eq true er = let f = rw (ep, eq, er) at e in let z : ◌≡◌ {A = ℕ} 0 1 = cc in absurd (omega arith)
      go true ep true eq false er =
          let f = rw (ep, eq, er) at e in
          let rows : length numbers / 8 ≡ count = cc in
          from_rows (sym rows) (eqb-true (length numbers % 8) 0 ep) (rw rows at (leb-true (length numbers / 8) 2048 eq))
          (rw rows at (ltb-false (good_rows (2 * modes) (length numbers / 8) numbers) (length numbers / 8) er))
