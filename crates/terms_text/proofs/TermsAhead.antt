-- Lines read as terms one after the other: those passed and those ahead give the answer.
use Rattle.std.specs.Prelude.{Ok, Err}
use Rattle.refusal.specs.declared.Refusal.TheVariants.{Malformed}
use mathlib.Core.Path.{◌≡◌, refl, ap, ◌∙◌, sym}
use mathlib.Core.Bool.{Bool, true, false, ◌&&◌, and-false}
use mathlib.Core.List.{List, [], ◌∷◌, ◌++◌, map, flat_map, append_assoc, append-nil}
use Prim.Native.Nat.{ℕ, suc, ◌+◌, ◌-◌, ◌*◌, ◌<◌, ◌≤◌}
use native.Mathlib.Omega.{arith}
use borrow.Author.Tests.{eq-eqb, ne_eqb, le-leb, lt-leb, leb-true}
use borrow.Rule.Slice.PartMut.{put_mid}
use lib.Dec.{eqb, leb}
use lib.ListN.{length, get_or, take, drop, replicate, length-append, length-drop, length-map, length-replicate}
use lib.Seq.{length-take-le}
use Rattle.lists.specs.Members.{every, alike}
use Rattle.lists.specs.Written.{written_at}
use Rattle.lists.proofs.Tests.{both}
use Rattle.lists.proofs.Parts.{drop_replicate}
use Rattle.lists.proofs.Written.{length_written, put_written, front_written}
use Rattle.fields.specs.Texts.{spelt}
use Rattle.fields.specs.Decimal.{is_number, value}
use Rattle.fields.specs.Lines.{lines, kept_of}
use Rattle.fields.specs.Fields.{fields}
use Rattle.fields.specs.code.Reading.{says_numbers, LineRead}
use Rattle.terms_text.specs.Input.{term_line, well_formed, formed_from, term_row}
use Rattle.terms_text.specs.code.Reading.{term_opening, all_terms, IndicesRead, TermRead, TermPut, TermsRead}

-- Indices read between their count and the zeros.
pub indices_read : (line : List ℕ) (count : ℕ) → count ≤ 7 → (row part : List ℕ) (k : ℕ) (r : Bool)
    → row ≡ count ∷ replicate 7 0 → k ≡ count → LineRead term_opening line (length (take k (drop 1 row))) part r → IndicesRead line count (put_mid 1 k row part) r
indices_read line count few row part k r shape size n =
    let seven : length (replicate {A = ℕ} 7 0) ≡ 7 = length-replicate {A = ℕ} 7 0 in
    let wide : length (take k (drop 1 row)) ≡ count =
    rw (shape, size) (length-take-le count (replicate 7 0) (omega arith)) in
    record {
      good = n.good ∙ ap (λ c. says_numbers term_opening c line) wide;
      row = λ e. rw (shape, size, n.values e, drop_replicate {A = ℕ} count 7 0);
    }

-- A term's row has eight numbers.
pub row_of_eight : (line : List ℕ) → term_line (fields line) ≡ true → length (term_row line) ≡ 8
unfolding term_line term_row
row_of_eight line e =
    let parts = drop 1 (fields line) in
    let p = both (alike (get_or (fields line) 0 []) (spelt "term")) (leb 2 (length (fields line)) && (leb (length (fields line)) 8 && every is_number parts)) e in
    let q = both (leb 2 (length (fields line))) _ p.1 in
    let r = both (leb (length (fields line)) 8) _ q.1 in
    let indices = map value parts in
    omega (
      arith,
      leb-true 2 (length (fields line)) q.0,
      leb-true (length (fields line)) 8 r.0,
      length-append indices (replicate (7 - length indices) 0),
      length-map parts value,
      length-replicate {A = ℕ} (7 - length indices) 0,
      length-drop 1 (fields line),
    )

-- A row read into its place.
pub term_put : (line : List ℕ) (place k : ℕ) (before part : List ℕ) (r : Bool) → k ≡ 8 → TermRead line part r → TermPut line place before (put_mid place k before part) r
term_put line place k before part r size t =
    record {
      good = t.good;
      row = λ e.
          let row = t.row e in
          let eight = row_of_eight line (sym t.good ∙ e) in
          put_written place part before k (ap length row ∙ eight ∙ sym size) ∙ ap (λ l. written_at place l before) row;
    }

-- So many lines are passed, all of them terms, and their rows stand in front.
pub record Passing (most : ℕ) (texts : List (List ℕ)) (numbers : List ℕ) (ahead : List (List ℕ)) (count : ℕ) : Type 0 where
  pub few : count ≤ most
  pub size : length numbers ≡ 8 * most
  pub formed : formed_from most 1 texts ≡ count + formed_from most (suc count) ahead
  pub many : length texts ≡ count + length ahead
  pub rows : flat_map term_row texts ≡ take (8 * count) numbers ++ flat_map term_row ahead

pub passing_starts : (most : ℕ) (texts : List (List ℕ)) (numbers : List ℕ) → length numbers ≡ 8 * most → Passing most texts numbers texts 0
passing_starts most texts numbers e =
    record { few = omega arith; size = e; formed = omega arith; many = omega arith; rows = refl }

-- No line is left: what stands behind the last LF tells whether that was all.
module _ (most : ℕ) (text numbers : List ℕ) (count : ℕ) (p : Passing most (lines text) numbers [] count) where
  all_formed : formed_from most 1 (lines text) ≡ count
  unfolding formed_from
  all_formed = omega (arith, p.formed)

  whole_told : all_terms most text ≡ eqb (length (kept_of text)) (length text)
  unfolding all_terms
  whole_told =
      let m : length (lines text) ≡ count = omega (arith, p.many) in
      rw (all_formed, m, eq-eqb count count refl)

  pub passing_cut : length (kept_of text) < length text → TermsRead most text numbers (Err (Malformed (count + 1)))
  passing_cut h = (whole_told ∙ ne_eqb (length (kept_of text)) (length text) (λ e. omega arith), rw all_formed)

  pub passing_ends : length (kept_of text) ≡ length text → TermsRead most text numbers (Ok count)
  unfolding flat_map
  passing_ends e =
      record {
        whole = whole_told ∙ eq-eqb (length (kept_of text)) (length text) e;
        formed = sym all_formed;
        few = p.few;
        rows = sym (p.rows ∙ append-nil (take (8 * count) numbers));
      }

module _ (most : ℕ) (text numbers line : List ℕ) (rest : List (List ℕ)) (count : ℕ) (p : Passing most (lines text) numbers (line ∷ rest) count) where
  -- A line that is no term, or one too many.
  pub passing_stops : (after : List ℕ) → well_formed most (suc count) line ≡ false → TermsRead most text after (Err (Malformed (count + 1)))
  unfolding formed_from all_terms
  passing_stops after bad =
      let f : formed_from most 1 (lines text) ≡ count = p.formed ∙ rw bad (omega arith) in
      (rw (f, p.many, ne_eqb count (count + suc (length rest)) (λ e. omega arith)), rw f)

  pub too_many : most ≤ count → well_formed most (suc count) line ≡ false
  unfolding well_formed
  too_many h = rw (ne_eqb (suc count) 0 (λ e. omega arith), lt-leb (suc count) most (omega arith))

  pub no_term : term_line (fields line) ≡ false → well_formed most (suc count) line ≡ false
  unfolding well_formed
  no_term e = rw (ne_eqb (suc count) 0 (λ f. omega arith), e) (and-false (leb (suc count) most))

  a_term : count < most → term_line (fields line) ≡ true → well_formed most (suc count) line ≡ true
  unfolding well_formed
  a_term h e = rw (ne_eqb (suc count) 0 (λ f. omega arith), e, le-leb (suc count) most h)

  pub passing_goes : (after : List ℕ) → count < most → (r : Bool) → r ≡ true → TermPut line (8 * count) numbers after r
      → Passing most (lines text) after rest (count + 1)
  unfolding formed_from flat_map
  passing_goes after h r yes_all put =
      let good = sym put.good ∙ yes_all in
      let row = put.row yes_all in
      let eight = row_of_eight line good in
      let room : 8 * count + length (term_row line) ≤ length numbers = omega (arith, p.size) in
      let n : suc count ≡ count + 1 = omega arith in
      let place : 8 * (count + 1) ≡ 8 * count + length (term_row line) = omega arith in
      let front : take (8 * (count + 1)) after ≡ take (8 * count) numbers ++ term_row line =
      rw (row, place) (front_written (8 * count) (term_row line) numbers room) in
      record {
        few = omega arith;
        size = ap length row ∙ length_written (8 * count) (term_row line) numbers room ∙ p.size;
        formed = p.formed ∙ rw (a_term h good, n) (omega arith);
        many = p.many ∙ omega arith;
        rows = p.rows ∙ rw front (sym (append_assoc (take (8 * count) numbers) (term_row line) (flat_map term_row rest)));
      }
