-- The leaves 2k and 2k+1 of each mode weighed with one z.
use Rattle.std.specs.Prelude.{◌≡◌, List, ℕ, ◌+◌, ◌*◌, ◌/◌, ◌%◌, ◌<◌, length, get_or, take}
use Rattle.lists.specs.Counting.{occurrences}
use Rattle.entities.specs.declared.Triple.{Triple}
use Rattle.terms.specs.Weight.{term_weight, weight_of}

-- The leaves of a mode with z.
abbrev pub pair_with : ℕ → ℕ → Triple
pair_with z k = record { x = 2 * k; y = 2 * k + 1; z = z }

-- What the leaves of a mode weigh in these numbers beside a z that is odd (1) or not (0): 1 where of the three one is odd or two are.
unfoldable pub beside : ℕ → ℕ → List ℕ → ℕ
beside odd k numbers = (occurrences (2 * k) numbers % 2 + occurrences (2 * k + 1) numbers % 2 + odd + 1) / 2 % 2

-- The table was told by the numbers up to a place, and now is by one number more.
pub record PairTurned (odd : ℕ) (term : List ℕ) (at : ℕ) (before after : List ℕ) : Type 0 where
  pub same_length : length after ≡ length before
  pub turned : (k : ℕ) → k < length before
      → get_or after k 0 + beside odd k (take at term) ≡ get_or before k 0 + beside odd k (take (at + 1) term)

-- Whether z is odd in the term, and each entry with what the mode's leaves weigh with z in it, less that.
pub record RowWeighed (term : List ℕ) (z : ℕ) (before after : List ℕ) (odd : ℕ) : Type 0 where
  pub same_length : length after ≡ length before
  pub odd_is : odd ≡ occurrences z term % 2
  pub weighs : (k : ℕ) → k < length before → get_or after k 0 + odd ≡ get_or before k 0 + term_weight (pair_with z k) term

-- Every number went up by one and down by another.
pub record Lifted (up down : ℕ) (before after : List ℕ) : Type 0 where
  pub same_length : length after ≡ length before
  pub lifted : (k : ℕ) → k < length before → get_or after k 0 + down ≡ get_or before k 0 + up

-- A table has, for each mode below a room, the weight of its leaves with z.
abbrev pub PairsWeighed : ℕ → List (List ℕ) → ℕ → List ℕ → Type 0
PairsWeighed room terms z table = (k : ℕ) → k < room → get_or table k 0 ≡ weight_of (pair_with z k) terms
