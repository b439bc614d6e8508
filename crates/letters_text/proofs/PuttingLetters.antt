-- The lines of rows written one behind the other.
use mathlib.Core.Path.{◌≡◌, refl, ap, ◌∙◌}
use mathlib.Core.List.{List, [], ◌∷◌, ◌++◌, flat_map, append_assoc, append-nil}
use Prim.Native.Nat.{ℕ, suc, ◌+◌, ◌*◌, ◌<◌, ◌≤◌}
use native.Mathlib.Nat.{zero-add, add-zero}
use native.Mathlib.Omega.{arith}
use lib.ListN.{length, take, drop}
use Rattle.lists.proofs.Behind.{Wrote}
use Rattle.lists.proofs.PieceByPiece.{Pieces, pieces_start, pieces_go, pieces_end}
use Rattle.lists.proofs.Joined.{flatMap_joined}
use Rattle.entities.specs.declared.Triple.{Triple}
use Rattle.terms.specs.Rows.{rows_of, term, terms_of}
use Rattle.terms.proofs.RowSteps.{terms_more, length_terms}
use Rattle.terms.specs.Weight.{term_letter}
use Rattle.reduction.specs.Reduction.{is_there}
use Rattle.letters_text.specs.Lettering.{letter_line, letter_lines}

-- The lines of rows as one text, the first row being at this place.
abbrev pub lines_text : Triple → ℕ → List (List ℕ) → List ℕ
lines_text triple place terms = flat_map (λ line. line) (letter_lines triple place terms)

module _ (triple : Triple) where
  lines_joined : (place : ℕ) (front rest : List (List ℕ))
      → letter_lines triple place (front ++ rest) ≡ letter_lines triple place front ++ letter_lines triple (place + length front) rest
  unfolding letter_lines
  lines_joined place [] rest = rw (add-zero place)
  lines_joined place (term ∷ front) rest =
      let e : place + suc (length front) ≡ suc place + length front = omega arith in
      rw (e, lines_joined (suc place) front rest, append_assoc)

  -- A row that is gone has no line, and one that is there has its own.
  pub gone_line : (place : ℕ) (term : List ℕ) → length term ≡ 0 → lines_text triple place (term ∷ []) ≡ []
  unfolding letter_lines is_there flat_map
  gone_line place [] e = refl
  gone_line place (index ∷ term) e = absurd (omega arith)

  pub there_line : (place : ℕ) (term : List ℕ) → (length term ≡ 0 → ⊥) → lines_text triple place (term ∷ []) ≡ letter_line place (term_letter triple term)
  unfolding letter_lines is_there flat_map
  there_line place [] some = absurd (some refl)
  there_line place (index ∷ term) some = append-nil (letter_line place (term_letter triple (index ∷ term)))

  -- The lines of the first rows are written.
  abbrev pub PuttingLetters : ℕ → List ℕ → List ℕ → List ℕ → ℕ → ℕ → Type 0
  PuttingLetters count rows before after at place = Pieces (λ n. lines_text triple 0 (terms_of 9 n rows)) 8 0 count before after at place

  module _ (count : ℕ) (rows before : List ℕ) (room : 0 + 8 * count ≤ length before) where
    pub letters_start : PuttingLetters count rows before before 0 0
    unfolding terms_of rows_of letter_lines flat_map
    letters_start = pieces_start (λ n. lines_text triple 0 (terms_of 9 n rows)) 8 0 count before room refl

    module _ (after : List ℕ) (at place : ℕ) (p : PuttingLetters count rows before after at place) where
      pub letters_go : (next : List ℕ) (end : ℕ) → place < count
          → Wrote at (lines_text triple place (term (take 9 (drop (9 * place) rows)) ∷ [])) after next end → end ≤ at + 8 → length next ≡ length after
          → PuttingLetters count rows before next end (place + 1)
      letters_go next end h w near same =
          let row = term (take 9 (drop (9 * place) rows)) in
          let more : lines_text triple 0 (terms_of 9 (place + 1) rows) ≡ lines_text triple 0 (terms_of 9 place rows) ++ lines_text triple place (row ∷ []) =
          ap (lines_text triple 0) (terms_more 9 place rows)
          ∙ ap (flat_map (λ line. line)) (lines_joined 0 (terms_of 9 place rows) (row ∷ []))
          ∙ flatMap_joined (λ line. line) (letter_lines triple 0 (terms_of 9 place rows)) (letter_lines triple (0 + length (terms_of 9 place rows)) (row ∷ []))
          ∙ ap (λ n. lines_text triple 0 (terms_of 9 place rows) ++ lines_text triple n (row ∷ [])) (zero-add _ ∙ length_terms 9 place rows) in
          pieces_go (λ n. lines_text triple 0 (terms_of 9 n rows)) 8 0 count before room after at place p next (lines_text triple place (row ∷ [])) end h more w near same

      pub letters_end : count ≤ place → Wrote 0 (lines_text triple 0 (terms_of 9 count rows)) before after at
      letters_end h = pieces_end (λ n. lines_text triple 0 (terms_of 9 n rows)) 8 0 count before room after at place p h
