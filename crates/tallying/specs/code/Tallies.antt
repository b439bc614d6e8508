-- What is counted of rows before a couple is weighed with every z, and what the counts come to.
use Rattle.tallying.specs.declared.tally.Tally.{Tally}
use Rattle.std.specs.Prelude.{◌≡◌, List, map, ℕ, ◌+◌, ◌/◌, ◌%◌, ◌≤◌, ◌<◌, length, get_or, take, None, Option, Some}
use Rattle.lists.specs.Counting.{sum, occurrences}
use Rattle.entities.specs.declared.Triple.{Triple}
use Rattle.terms.specs.Weight.{term_weight, weight_of}

-- In how many terms a number is odd.
unfoldable pub odds : ℕ → List (List ℕ) → ℕ
odds number terms = sum (map (λ term. occurrences number term % 2) terms)

-- A table has, for each number below a room, in how many terms it is odd.
abbrev pub OddsAre : ℕ → List (List ℕ) → List ℕ → Type 0
OddsAre room terms table = (n : ℕ) → n < room → get_or table n 0 ≡ odds n terms

-- Each of the numbers up to a place is below a bound.
abbrev pub AllBelow : List ℕ → ℕ → ℕ → Type 0
AllBelow term at bound = (n : ℕ) → bound ≤ n → occurrences n (take at term) ≡ 0

-- The table was raised by the parities of the numbers up to a place, and now is by those of one number more.
pub record Turned (term : List ℕ) (at : ℕ) (before after : List ℕ) : Type 0 where
  pub same_length : length after ≡ length before
  pub turned : (n : ℕ) → n < length before
      → get_or after n 0 + occurrences n (take at term) % 2 ≡ get_or before n 0 + occurrences n (take (at + 1) term) % 2

-- The table went up by one at each number that is odd in the term.
pub record Raised (term before after : List ℕ) : Type 0 where
  pub same_length : length after ≡ length before
  pub raised : (n : ℕ) → n < length before → get_or after n 0 ≡ get_or before n 0 + occurrences n term % 2

-- How many of x and y are odd in the term, and a table from which the term's weight with each z is read.
pub record RowTallied (term : List ℕ) (x y : ℕ) (before after : List ℕ) (odd : ℕ) : Type 0 where
  pub same_length : length after ≡ length before
  pub most : odd ≤ 2
  pub apart : (z : ℕ) → odd % 2 ≤ term_weight (record { x = x; y = y; z = z }) term
  pub up : (z : ℕ) → z < length before → get_or after z 0 ≤ get_or before z 0 + 2
  pub weighs : (z : ℕ) → z < length before
      → (odd + 1) / 2 + occurrences z term % 2 + get_or before z 0 ≡ term_weight (record { x = x; y = y; z = z }) term + get_or after z 0

-- The weights of the couple with all z: none below the limit; or each from the counts, and none below a bound.
abbrev pub Tallied : List (List ℕ) → ℕ → ℕ → ℕ → List ℕ → Option Tally → Type 0
Tallied terms x y limit less None = (z : ℕ) → limit ≤ weight_of (record { x = x; y = y; z = z }) terms
Tallied terms x y limit less (Some tally) =
    (tally.all ≤ length terms)
    × ((z : ℕ) → z < length less → tally.all + odds z terms ≡ weight_of (record { x = x; y = y; z = z }) terms + get_or less z 0)
    × ((z : ℕ) → tally.apart ≤ weight_of (record { x = x; y = y; z = z }) terms)

-- What was counted gives the weight of the couple with any z below a room.
abbrev pub Looked : ℕ → (Triple → ℕ) → ℕ → ℕ → ℕ → List ℕ → List ℕ → Type 0
Looked room measure x y all table less =
    (z : ℕ) → z < room → all + get_or table z 0 ≡ measure (record { x = x; y = y; z = z }) + get_or less z 0
