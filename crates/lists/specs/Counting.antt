-- Sums over a list, and how often a number occurs in one.
use Rattle.std.specs.Prelude.{cond, List, [], ◌∷◌, ℕ, ◌+◌, eqb}

-- The sum of the numbers of a list.
unfoldable pub sum : List ℕ → ℕ
sum [] = 0
sum (v ∷ l) = v + sum l

-- 1 where the two numbers are the same, else 0.
unfoldable pub same : ℕ → ℕ → ℕ
same v x = cond (eqb v x) 1 0

-- How many times x occurs in a list.
unfoldable pub occurrences : ℕ → List ℕ → ℕ
occurrences x [] = 0
occurrences x (v ∷ l) = same v x + occurrences x l
