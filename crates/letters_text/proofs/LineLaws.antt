-- The line of a row: its parts, its length, and what stands before its LF.
use mathlib.Core.Path.{◌≡◌, refl, ap, ◌∙◌}
use mathlib.Core.Bool.{true, not, cond}
use mathlib.Core.List.{List, [], ◌∷◌, ◌++◌, append_assoc}
use Prim.Native.Nat.{ℕ, suc, ◌+◌, ◌-◌, ◌≤◌}
use native.Mathlib.Nat.{zero-add}
use native.Mathlib.Omega.{arith}
use lib.Dec.{eqb}
use lib.ListN.{length, get_or, length-append}
use Rattle.lists.specs.Members.{every}
use Rattle.lists.specs.Written.{written_at}
use Rattle.lists.proofs.Every.{every_cons, every_uncons}
use Rattle.lists.proofs.Behind.{Wrote, then_wrote}
use Rattle.fields.specs.Texts.{spelt}
use Rattle.fields.specs.Decimal.{decimal}
use Rattle.fields.specs.Fields.{tabbed}
use Rattle.fields.specs.Lines.{is_line}
use Rattle.fields.proofs.Digits.{decimal_short}
use Rattle.fields.proofs.LinesJoined.{no_feed, line_ended}
use Rattle.fields.proofs.NumbersTabbed.{tabbed_free, decimals_free}
use Rattle.terms.specs.declared.letters.Letter.{Letter}
use Rattle.terms.specs.declared.letters.Letter.TheVariants.{Nothing, X, Y, Z}
use Rattle.terms.specs.Letters.{not_none}
use Rattle.text.specs.Output.{line_of}
use Rattle.text.specs.code.Printing.{Puts}
use Rattle.letters_text.specs.Lettering.{letter_sign, letter_line, no_step, letters_printed, has_letter}

module _ (place : ℕ) (letter : Letter) where
  -- The place with its tab, then the letter and LF.
  pub line_parts : (decimal place ++ (9 ∷ [])) ++ (letter_sign letter ∷ (10 ∷ [])) ≡ letter_line place letter
  unfolding letter_line line_of tabbed
  line_parts = simp append_assoc

  pub line_wrote : {at middle end : ℕ} {before between after : List ℕ} → Wrote at (decimal place ++ (9 ∷ [])) before between middle
      → Wrote middle (letter_sign letter ∷ (10 ∷ [])) between after end → middle ≤ length before → Wrote at (letter_line place letter) before after end
  line_wrote number mark room = rw (← line_parts) (then_wrote number mark room)

  pub line_short : place ≤ 65535 → length (letter_line place letter) ≤ 8
  line_short h =
      omega (
        arith,
        ap length line_parts,
        length-append (decimal place ++ (9 ∷ [])) (letter_sign letter ∷ (10 ∷ [])),
        length-append (decimal place) (9 ∷ []),
        decimal_short place h,
      )

-- None of the letters' bytes is LF.
sign_free : (letter : Letter) → no_feed (letter_sign letter ∷ []) ≡ true
unfolding letter_sign no_feed every
sign_free Nothing = refl
sign_free X = refl
sign_free Y = refl
sign_free Z = refl

pub line_whole : (place : ℕ) (letter : Letter) → is_line (letter_line place letter) ≡ true
unfolding letter_line line_of every
line_whole place letter =
    line_ended (tabbed (decimal place ∷ ((letter_sign letter ∷ []) ∷ [])))
    (tabbed_free (decimal place ∷ ((letter_sign letter ∷ []) ∷ []))
    (every_cons no_feed (decimal place) ((letter_sign letter ∷ []) ∷ []) (every_uncons no_feed (decimal place) [] (decimals_free (place ∷ []))).0
    (every_cons no_feed (letter_sign letter ∷ []) [] (sign_free letter) refl)))

-- The last but one of a list.
before_last : (front : List ℕ) (a b : ℕ) → get_or (front ++ (a ∷ (b ∷ []))) (length (front ++ (a ∷ (b ∷ []))) - 2) 0 ≡ a
before_last [] a b = refl
before_last (c ∷ front) a b =
    let e : suc (length (front ++ (a ∷ (b ∷ [])))) - 2 ≡ suc (length (front ++ (a ∷ (b ∷ []))) - 2) =
    omega (arith, length-append front (a ∷ (b ∷ []))) in
    rw e (before_last front a b)

sign_told : (letter : Letter) → cond (not (eqb (letter_sign letter) 45)) 1 0 ≡ not_none letter
unfolding letter_sign
sign_told Nothing = refl
sign_told X = refl
sign_told Y = refl
sign_told Z = refl

-- A line has a letter where the letter isn't none.
pub letter_told : (place : ℕ) (letter : Letter) → cond (has_letter (letter_line place letter)) 1 0 ≡ not_none letter
unfolding has_letter
letter_told place letter =
    rw (← line_parts place letter, before_last (decimal place ++ (9 ∷ [])) (letter_sign letter) 10) (sign_told letter)

-- The word `steps` with its tab, a number and LF.
pub steps_put : (steps : ℕ) (before after : List ℕ) (r : ℕ) → r ≤ length before
    → r ≡ 0 + length (spelt "steps\t" ++ (decimal steps ++ (10 ∷ []))) → after ≡ written_at 0 (spelt "steps\t" ++ (decimal steps ++ (10 ∷ []))) before
    → Puts (letters_printed (no_step steps)) before after r
unfolding letters_printed line_of tabbed
steps_put steps before after r within count written =
    record { count = count ∙ zero-add _; fits = omega (arith, count); bytes = written }
