-- The rows after one was written behind the others.
use mathlib.Core.Path.{◌≡◌, ap, ◌∙◌, sym}
use mathlib.Core.List.{List, [], ◌∷◌, ◌++◌, map, map-append}
use Prim.Native.Nat.{ℕ, ◌+◌, ◌*◌, ◌<◌, ◌≤◌}
use native.Mathlib.Nat.{add-zero, mul-le-mul_left}
use native.Mathlib.Omega.{arith}
use borrow.Author.Count.{below_more}
use lib.ListN.{length, get_or, take, drop, replicate}
use Rattle.lists.specs.Written.{written_at}
use Rattle.lists.proofs.Written.{length_written, take_written, part_written, drop_written, getD_before, getD_within}
use Rattle.terms.specs.Rows.{rows_of, term, terms_of}
use Rattle.terms.specs.code.Held.{Held}
use Rattle.terms.proofs.RowSteps.{row_front, rows_front, rows_more}

-- No row is held by any numbers.
pub held_none : (w : ℕ) (s : List ℕ) → 8 ≤ w → Held w 0 s
held_none w s wide =
    record {
      wide = wide;
      room = omega arith;
      within = λ place h. absurd (omega arith);
      zeros = λ place h. absurd (omega arith);
    }

module _ (w place : ℕ) (before row : List ℕ) (held : Held w place before) (room : w * place + w ≤ length before) (whole : length row ≡ w) where
  fits : w * place + length row ≤ length before
  fits = rw whole room

  after : List ℕ
  after = written_at (w * place) row before

  pub put_front : take (w * place) (written_at (w * place) row before) ≡ take (w * place) before
  put_front = take_written (w * place) row before fits

  pub put_there : take w (drop (w * place) (written_at (w * place) row before)) ≡ row
  put_there = ap (λ n. take n (drop (w * place) (written_at (w * place) row before))) (sym whole) ∙ part_written (w * place) row before fits

  first_there : get_or after (w * place) 0 ≡ get_or row 0 0
  unfolding after
  first_there =
      ap (λ n. get_or (written_at (w * place) row before) n 0) (sym (add-zero (w * place)))
      ∙ getD_within (w * place) row before fits 0 0 (rw whole (omega (arith, held.wide)))

  pub put_held : get_or row 0 0 < 8 → (get_or row 0 0 ≡ 0 → row ≡ replicate w 0) → Held w (place + 1) (written_at (w * place) row before)
  unfolding after
  put_held within zeros =
      let same_first : (p : ℕ) → p < place → get_or after (w * p) 0 ≡ get_or before (w * p) 0 =
      λ p h. getD_before (w * place) row before fits (w * p) 0 (omega (arith, mul-le-mul_left w h, held.wide)) in
      record {
        wide = held.wide;
        room = rw (length_written (w * place) row before fits) (omega (arith, room));
        within = below_more (λ p. get_or after (w * p) 0 < 8) place (λ p h. rw (same_first p h) (held.within p h)) (rw first_there within);
        zeros =
            below_more (λ p. get_or after (w * p) 0 ≡ 0 → take w (drop (w * p) after) ≡ replicate w 0) place
            (λ p h none. row_front w place after before put_front p h ∙ held.zeros p h (sym (same_first p h) ∙ none))
            (λ none. put_there ∙ zeros (sym first_there ∙ none));
      }

  pub put_rows : rows_of w (place + 1) (written_at (w * place) row before) ≡ rows_of w place before ++ (row ∷ [])
  unfolding after
  put_rows =
      rows_more w place after
      ∙ rw (rows_front w place after before put_front) (ap (λ l. rows_of w place before ++ (l ∷ [])) put_there)

  pub put_terms : terms_of w (place + 1) (written_at (w * place) row before) ≡ terms_of w place before ++ (term row ∷ [])
  unfolding terms_of
  put_terms = ap (map term) put_rows ∙ map-append term (rows_of w place before) (row ∷ [])

  pub put_rest : drop (w * (place + 1)) (written_at (w * place) row before) ≡ drop (w * (place + 1)) before
  put_rest = drop_written (w * place) row before fits (w * (place + 1)) (rw whole (omega arith))

  pub put_length : length (written_at (w * place) row before) ≡ length before
  put_length = length_written (w * place) row before fits
