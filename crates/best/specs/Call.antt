-- "Return the least tree weight, the first sequence reaching it and how many reach it. … Refusals: 22 for 5 modes or more, in the place of 1's
-- upper end; 0 modes stays 1; then 2, 3, 4, and 5 where the sequence's 3n numbers don't fit."
use Rattle.best.specs.declared.Least.{Least}
use Rattle.refusal.specs.declared.Refusal.{Refusal}
use Rattle.std.specs.Prelude.{◌≡◌, cond, List, [], ◌∷◌, ◌++◌, ℕ, ◌*◌, ◌/◌, eqb, ltb, length, Err, Ok, Result}
use Rattle.lists.specs.Written.{written_at}
use Rattle.refusal.specs.declared.Refusal.TheVariants.{Modes, Room, TooManyToTry}
use Rattle.refusal.specs.Numbers.{refused_numbers, done_numbers, Tells}
use Rattle.entities.specs.Limits.{row_width}
use Rattle.entities.specs.declared.Triple.{Triple}
use Rattle.terms.specs.Rows.{terms_of}
use Rattle.terms.specs.Good.{checked}
use Rattle.best.specs.Best.{Best}
use Rattle.best.specs.computed.Lightest.{lightest, least_weight, how_many}

-- "For 1 to 4 modes": the most modes that the call takes.
abbrev pub most_to_try : ℕ
most_to_try = 4

-- The terms that a call is given.
abbrev pub terms_given : List ℕ → List (List ℕ)
terms_given numbers = terms_of row_width (length numbers / row_width) numbers

-- "then 2, 3, 4, and 5 where the sequence's 3n numbers don't fit".
unfoldable pub found_among : ℕ → List ℕ → ℕ → Result ℕ Refusal → Result Least Refusal
found_among modes numbers room (Ok count) =
    cond (ltb room (3 * modes)) (Err Room)
    (Ok (record { weight = least_weight modes (terms_given numbers); reached = how_many modes (terms_given numbers) }))
found_among modes numbers room (Err refusal) = Err refusal

-- The meaning of `best`: "22 for 5 modes or more, in the place of 1's upper end; 0 modes stays 1"; `most` is the 4.
unfoldable pub best_found : ℕ → ℕ → List ℕ → ℕ → Result Least Refusal
best_found most modes numbers room =
    cond (eqb modes 0) (Err Modes)
    (cond (ltb most modes) (Err TooManyToTry) (found_among modes numbers room (checked modes numbers)))

-- The numbers of an answer: refusal, place, the least weight, how many reach it.
unfoldable pub best_numbers : Result Least Refusal → List ℕ
best_numbers (Ok least) = done_numbers (least.weight ∷ (least.reached ∷ []))
best_numbers (Err refusal) = refused_numbers 2 refusal

-- "the sequence's 3n numbers": x, y, z of each merge, the oldest first.
unfoldable pub sequence_numbers : List Triple → List ℕ
sequence_numbers [] = []
sequence_numbers (merge ∷ history) = sequence_numbers history ++ (merge.x ∷ (merge.y ∷ (merge.z ∷ [])))

-- The lent numbers after the call: the first of the lightest at their front; refused, as they were.
unfoldable pub sequence_after : Result Least Refusal → ℕ → List ℕ → List ℕ → List ℕ
sequence_after (Ok least) modes numbers before = written_at 0 (sequence_numbers (lightest modes (terms_given numbers))) before
sequence_after (Err refusal) modes numbers before = before

-- What `best` promises: the answer, its numbers, and every lent number afterwards.
pub record Sought (most modes : ℕ) (numbers before : List ℕ) (r : Result Least Refusal) (after : List ℕ) : Type 0 where
  pub told : Tells best_numbers (best_found most modes numbers (length before)) r
  pub sequence_is : after ≡ sequence_after r modes numbers before

-- What is found is the best there is.
abbrev pub FoundBest : Type 0
FoundBest =
    (most modes : ℕ) (numbers : List ℕ) (room : ℕ) (least : Least) → best_found most modes numbers room ≡ Ok least
    → Best modes (terms_given numbers) least.weight (lightest modes (terms_given numbers)) least.reached
