-- The lines with a letter are as many as the step's triple weighs.
use mathlib.Core.Path.{◌≡◌, refl, ◌∙◌}
use mathlib.Core.Bool.{Bool, true, false, cond}
use mathlib.Core.List.{List, [], ◌∷◌}
use Prim.Native.Nat.{ℕ, suc, ◌+◌}
use native.Mathlib.Omega.{arith}
use lib.ListN.{length}
use Rattle.lists.specs.Counting.{sum}
use Rattle.lists.specs.Members.{every, keep}
use Rattle.lists.proofs.Every.{every_cons}
use Rattle.entities.specs.declared.Triple.{Triple}
use Rattle.fields.specs.Lines.{is_line}
use Rattle.fields.proofs.LinesJoined.{lines_read_back}
use Rattle.terms.specs.Weight.{term_letter, term_weight, weight_of}
use Rattle.reduction.specs.Reduction.{is_there}
use Rattle.reduction.proofs.AsTold.{gone_weighs_nothing}
use Rattle.history.specs.History.{merge_of, history_before, rows_after}
use Rattle.history.specs.Choice.{weight_in}
use Rattle.letters_text.specs.Lettering.{letter_line, letter_lines, step_lines, letters_printed, has_letter, LettersWeigh}
use Rattle.letters_text.proofs.LineLaws.{line_whole, letter_told}

module _ (triple : Triple) where
  pub all_lines : (place : ℕ) (terms : List (List ℕ)) → every is_line (letter_lines triple place terms) ≡ true
  unfolding letter_lines is_there every
  all_lines place [] = refl
  all_lines place ([] ∷ terms) = all_lines (suc place) terms
  all_lines place ((index ∷ term) ∷ terms) =
      every_cons is_line (letter_line place (term_letter triple (index ∷ term))) (letter_lines triple (suc place) terms)
      (line_whole place (term_letter triple (index ∷ term))) (all_lines (suc place) terms)

  with_letters : (line : List ℕ) (rest : List (List ℕ)) (b : Bool) → has_letter line ≡ b
      → length (keep has_letter (line ∷ rest)) ≡ cond (has_letter line) 1 0 + length (keep has_letter rest)
  unfolding keep
  with_letters line rest true e = rw e (omega arith)
  with_letters line rest false e = rw e (omega arith)

  lines_weigh : (place : ℕ) (terms : List (List ℕ)) → length (keep has_letter (letter_lines triple place terms)) ≡ weight_of triple terms
  unfolding letter_lines is_there keep weight_of sum term_weight
  lines_weigh place [] = refl
  lines_weigh place ([] ∷ terms) = omega (arith, lines_weigh (suc place) terms, gone_weighs_nothing triple)
  lines_weigh place ((index ∷ term) ∷ terms) =
      let letter = term_letter triple (index ∷ term) in
      with_letters (letter_line place letter) (letter_lines triple (suc place) terms) (has_letter (letter_line place letter)) refl
      ∙ (omega (arith, letter_told place letter, lines_weigh (suc place) terms))

pub letters_weigh : LettersWeigh
unfolding letters_printed step_lines weight_in
letters_weigh job merges step =
    let triple = merge_of merges step in
    let rows = rows_after job (history_before merges step) in
    rw (lines_read_back (letter_lines triple 0 rows) (all_lines triple 0 rows)) (lines_weigh triple 0 rows)
