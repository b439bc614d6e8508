-- The rows that are there gathered one by one: those gathered and those ahead that are there are all of them.
use mathlib.Core.Path.{◌≡◌, refl, ap, ◌∙◌, sym}
use mathlib.Core.List.{List, [], ◌∷◌, ◌++◌, append-nil, append_assoc}
use mathlib.Core.Logic.{⊎_elim}
use Prim.Native.Nat.{ℕ, ◌+◌, ◌-◌, ◌*◌, ◌<◌, ◌≤◌}
use native.Mathlib.Nat.{add-zero}
use native.Mathlib.Omega.{arith}
use lib.ListN.{length, get_or, take, drop, replicate, length-take, length-drop, take-append-drop}
use lib.Seq.{take-take, get_or-take, get_or-drop}
use Rattle.lists.specs.Members.{keep}
use Rattle.lists.specs.Written.{written_at}
use Rattle.lists.proofs.Tests.{same_or_not}
use Rattle.lists.proofs.Written.{take_written}
use Rattle.terms.specs.Rows.{rows_of, term, terms_of}
use Rattle.terms.specs.code.Held.{Held}
use Rattle.terms.proofs.RowSteps.{terms_start, terms_step, terms_end, terms_front, length_term, held_fewer}
use Rattle.reduction.specs.Reduction.{is_there, live}
use Rattle.reduction.specs.code.Promises.{RowGathered, LiveRows}
use Rattle.terms.proofs.RowPut.{held_none, put_held, put_terms, put_length}
use Rattle.terms.proofs.CountedRows.{term_joined}
use Rattle.reduction.proofs.RowReduced.{no_term}
use Rattle.reduction.proofs.AsTold.{is_there_so}

-- While the rows are passed.
pub record Gathering (count : ℕ) (rows before gathered : List ℕ) (kept place : ℕ) : Type 0 where
  pub inside : place ≤ count
  pub fewer : kept ≤ place
  pub held : Held 8 kept gathered
  pub same_length : length gathered ≡ length before
  pub gives : live (terms_of 9 count rows) ≡ terms_of 8 kept gathered ++ live (terms_of 9 (count - place) (drop (9 * place) rows))

module _ (count : ℕ) (rows before : List ℕ) (held : Held 9 count rows) (room : 8 * count ≤ length before) where
  pub gathering_starts : Gathering count rows before before 0 0
  unfolding terms_of rows_of
  gathering_starts =
      record {
        inside = omega arith;
        fewer = omega arith;
        held = held_none 8 before (omega arith);
        same_length = refl;
        gives = ap live (terms_start 9 count rows);
      }

  module _ (gathered : List ℕ) (kept place : ℕ) (g : Gathering count rows before gathered kept place) where
    module _ (h : place < count) where
      abbrev whole_row : List ℕ
      whole_row = take 9 (drop (9 * place) rows)

      abbrev here : List ℕ
      here = take 8 (drop (9 * place) rows)

      pub here_room : 9 * place + 9 ≤ length rows
      here_room = omega (arith, held.room)

      pub live_room : 8 * kept + 8 ≤ length gathered
      live_room = rw g.same_length (omega (arith, room, g.fewer))

      here_first : get_or here 0 0 ≡ get_or rows (9 * place) 0
      here_first =
          get_or-take 8 (drop (9 * place) rows) 0 0 (omega arith)
          ∙ get_or-drop (9 * place) rows 0 0
          ∙ ap (λ n. get_or rows n 0) (add-zero (9 * place))

      whole : length here ≡ 8
      whole = simp (length-take, length-drop) (omega (arith, here_room))

      short : get_or here 0 0 < 8
      short = rw here_first (held.within place h)

      -- The row's term stands within its first eight numbers.
      same_term : term whole_row ≡ term here
      same_term =
          let parts : here ++ drop 8 whole_row ≡ whole_row =
          rw (← take-take 8 9 (drop (9 * place) rows) (omega arith)) (take-append-drop 8 whole_row) in
          ap term (sym parts) ∙ term_joined here (drop 8 whole_row) (rw whole short)

      row_zeros : get_or rows (9 * place) 0 ≡ 0 → here ≡ replicate 8 0
      row_zeros none = sym (take-take 8 9 (drop (9 * place) rows) (omega arith)) ∙ ap (take 8) (held.zeros place h none)

      -- A row that is gone stands behind those gathered, and counts for none.
      pub passed_gone : get_or rows (9 * place) 0 ≡ 0 → Gathering count rows before (written_at (8 * kept) here gathered) kept (place + 1)
      unfolding live is_there keep
      passed_gone none =
          let front = terms_front 8 kept gathered (written_at (8 * kept) here gathered)
          (sym (take_written (8 * kept) here gathered (rw whole live_room))) in
          record {
            inside = omega arith;
            fewer = omega (arith, g.fewer);
            held =
                held_fewer 8 kept (kept + 1) _ (omega arith)
                (put_held 8 kept gathered here g.held live_room whole short (λ zero. row_zeros none));
            same_length = put_length 8 kept gathered here g.held live_room whole ∙ g.same_length;
            gives =
                g.gives
                ∙ rw (terms_step 9 count place rows h, same_term, no_term here (here_first ∙ none))
                (ap (λ t. t ++ keep is_there (terms_of 9 (count - (place + 1)) (drop (9 * (place + 1)) rows))) front);
          }

      -- A row that is there is put behind those gathered.
      pub passed_there : (get_or rows (9 * place) 0 ≡ 0 → ⊥) → Gathering count rows before (written_at (8 * kept) here gathered) (kept + 1) (place + 1)
      unfolding live keep
      passed_there some =
          let long : length (term here) ≡ get_or here 0 0 = length_term here (rw whole short) in
          record {
            inside = omega arith;
            fewer = omega (arith, g.fewer);
            held =
                put_held 8 kept gathered here g.held live_room whole short
                (λ none. absurd (some (sym here_first ∙ none)));
            same_length = put_length 8 kept gathered here g.held live_room whole ∙ g.same_length;
            gives =
                g.gives
                ∙ rw (
                  terms_step 9 count place rows h,
                  same_term,
                  is_there_so (term here) (omega (arith, long, here_first, some)),
                  put_terms 8 kept gathered here g.held live_room whole,
                )
                (sym (append_assoc (terms_of 8 kept gathered) (term here ∷ []) _));
          }

      pub gathered_on : (after : List ℕ) (now_kept : ℕ) → RowGathered rows place kept gathered after now_kept
          → Gathering count rows before after now_kept (place + 1)
      gathered_on after now_kept r =
          ⊎_elim
          (λ none. rw (r.gone none, r.put) (passed_gone none))
          (λ some. rw (r.there some, r.put) (passed_there some))
          (same_or_not (get_or rows (9 * place) 0) 0)

    pub gathering_ends : count ≤ place → LiveRows count rows gathered kept
    unfolding live keep
    gathering_ends h =
        record {
          terms = sym (g.gives ∙ rw (terms_end 9 count place rows h) (append-nil (terms_of 8 kept gathered)));
          held = g.held;
          at_most = omega (arith, g.fewer, g.inside);
        }
