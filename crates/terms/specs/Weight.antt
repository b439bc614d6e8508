-- "The weighing of one row by one triple shall answer none, X, Y or Z instead of 0 or 1 …. Weight is then "not none"".
use Rattle.std.specs.Prelude.{◌≡◌, cond, ◌||◌, List, map, ℕ, ◌+◌, ◌%◌, eqb}
use Rattle.lists.specs.Counting.{sum, occurrences}
use Rattle.entities.specs.declared.Triple.{Triple}
use Rattle.terms.specs.declared.letters.Letter.{Letter}
use Rattle.terms.specs.Letters.{counted_letter, not_none}

-- The letter that a triple gives a row: its children are odd where they occur in the row an odd number of times.
unfoldable pub term_letter : Triple → List ℕ → Letter
term_letter triple term =
    counted_letter (occurrences triple.x term) (occurrences triple.y term) (occurrences triple.z term)

-- "The weight of a triple in one row".
unfoldable pub term_weight : Triple → List ℕ → ℕ
term_weight triple term = not_none (term_letter triple term)

-- "Its weight is the sum over rows."
unfoldable pub weight_of : Triple → List (List ℕ) → ℕ
weight_of triple terms = sum (map (term_weight triple) terms)

-- "of the three, count those that occur an odd number of times".
unfoldable pub odd_ones : Triple → List ℕ → ℕ
odd_ones triple term =
    occurrences triple.x term % 2 + occurrences triple.y term % 2 + occurrences triple.z term % 2

-- "No weight … changes": it is, as document 01 has it, "1 if that count is 1 or 2, else 0".
abbrev pub NoWeightChanges : Type 0
NoWeightChanges =
    (triple : Triple) (term : List ℕ)
    → term_weight triple term ≡ cond (eqb (odd_ones triple term) 1 || eqb (odd_ones triple term) 2) 1 0
