-- "Indices are below 2n and never descend; equal indices and equal rows are allowed. … here empty terms are refused everywhere."
use Rattle.refusal.specs.declared.Refusal.{Refusal}
use Rattle.std.specs.Prelude.{◌≡◌, true, false, MatchResult, Bool, cond, not, ◌&&◌, List, [], ◌∷◌, ℕ, suc, ◌*◌, ◌/◌, ◌%◌, eqb, ltb, leb, length, get_or, drop, Err, Ok, Result}
use Rattle.lists.specs.Members.{every, leading}
use Rattle.lists.specs.Ranges.{ascends}
use Rattle.refusal.specs.declared.Refusal.TheVariants.{Modes, TermNumbers, TooManyTerms, BadRow}
use Rattle.refusal.specs.Numbers.{refused_numbers, done_numbers}
use Rattle.entities.specs.Limits.{most_terms, row_width}
use Rattle.terms.specs.Rows.{rows_of, term}

-- 1: "n is 0 or above 256"; `most` is the 256.
unfoldable pub modes_good : ℕ → ℕ → Bool
modes_good most modes = leb 1 modes && leb modes most

-- What is said of the modes: that they are good, or refusal 1.
abbrev pub ModesSaid : ℕ → ℕ → Result (Unit {0}) Refusal → Type 0
ModesSaid most modes r = MatchResult r (λ done. modes_good most modes ≡ true) (λ why. (modes_good most modes ≡ false) × (why ≡ Modes))

-- "Indices are below 2n and never descend"; `bound` is the 2n.
unfoldable pub good_indices : ℕ → List ℕ → Bool
good_indices bound indices = ascends indices && every (λ index. ltb index bound) indices

-- "a length 1 to 7 (`MAX_MAJORANAS`), that many indices, then zeros".
unfoldable pub good_row : ℕ → List ℕ → Bool
good_row bound row =
    leb 1 (get_or row 0 0)
    && (leb (get_or row 0 0) 7 && (good_indices bound (term row) && every (λ number. eqb number 0) (drop (suc (get_or row 0 0)) row)))

-- "a length 1 to 7 (`MAX_MAJORANAS`), that many indices … below 2n and never descend".
unfoldable pub good_term : ℕ → List ℕ → Bool
good_term bound term = leb 1 (length term) && (leb (length term) 7 && good_indices bound term)

-- How many rows are good before the first bad one.
unfoldable pub good_rows : ℕ → ℕ → List ℕ → ℕ
good_rows bound count numbers = leading (good_row bound) (rows_of row_width count numbers)

-- The numbers of an answer: refusal, place, and how many terms there are.
unfoldable pub check_numbers : Result ℕ Refusal → List ℕ
check_numbers (Ok count) = done_numbers (count ∷ [])
check_numbers (Err refusal) = refused_numbers 1 refusal

-- Refusals 2, 3 and 4, in this order: "term numbers not a multiple of 8", "T above 2048", "first bad row".
unfoldable pub checked : ℕ → List ℕ → Result ℕ Refusal
checked modes numbers =
    cond (not (eqb (length numbers % row_width) 0)) (Err TermNumbers)
    (cond (not (leb (length numbers / row_width) most_terms)) (Err TooManyTerms)
    (cond (ltb (good_rows (2 * modes) (length numbers / row_width) numbers) (length numbers / row_width))
    (Err (BadRow (good_rows (2 * modes) (length numbers / row_width) numbers)))
    (Ok (length numbers / row_width))))
