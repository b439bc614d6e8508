-- Marks of terms: a number made from a term's indices, and a chain through the places of those with the same mark. Every mark is below `size`.
use Rattle.std.specs.Prelude.{◌≡◌, false, not, List, [], ◌∷◌, ℕ, ◌+◌, ◌-◌, ◌*◌, ◌%◌, ◌<◌, ◌≤◌, length, get_or, take, set}
use Rattle.lists.specs.Members.{some_of, leading, alike}

-- How many marks there are.
abbrev pub mark_room : ℕ
mark_room = 16384

-- The mark after one number more. Any factor would be right; under this one short terms seldom share a mark.
unfoldable pub next_mark : ℕ → ℕ → ℕ → ℕ
next_mark size mark number = (773 * mark + number) % size

-- The mark so far, gone on with over the numbers.
unfoldable pub mark_after : ℕ → ℕ → List ℕ → ℕ
mark_after size mark [] = mark
mark_after size mark (number ∷ rest) = mark_after size (next_mark size mark number) rest

-- The mark of a term: that of all its numbers, from 0 on.
unfoldable pub mark_of : ℕ → List ℕ → ℕ
mark_of size term = mark_after size 0 term

-- A number leads to those of the first `count` terms that have a mark and are not empty: it is 0, or 1 + the place of one of them, and a term
-- with this mark that is like one of the first `count` is like one of the first `last`.
pub record Leads (size : ℕ) (terms : List (List ℕ)) (count mark last : ℕ) : Type 0 where
  pub inside : last ≤ count
  pub there : 0 < last → 0 < length (get_or terms (last - 1) [])
  pub marked : 0 < last → mark_of size (get_or terms (last - 1) []) ≡ mark
  pub all : (term : List ℕ) → 0 < length term → mark_of size term ≡ mark
      → some_of (alike term) (take count terms) ≡ some_of (alike term) (take last terms)

-- The chains of terms, at most so many: at each mark the number that leads to its terms, and behind the marks, for the place of each term
-- that is not empty, the number that leads to those before it with its mark. No term that is not empty stands there twice.
pub record Chained (size most : ℕ) (terms : List (List ℕ)) (chains : List ℕ) : Type 0 where
  pub room : length chains ≡ size + most
  pub fits : length terms ≤ most
  pub last : (mark : ℕ) → mark < size → Leads size terms (length terms) mark (get_or chains mark 0)
  pub link : (place : ℕ) → place < length terms → 0 < length (get_or terms place [])
      → Leads size terms place (mark_of size (get_or terms place [])) (get_or chains (size + place) 0)
  pub alone : (place : ℕ) → place < length terms → 0 < length (get_or terms place [])
      → some_of (alike (get_or terms place [])) (take place terms) ≡ false

-- A place put first on the chain of a mark.
unfoldable pub put_first : ℕ → ℕ → ℕ → List ℕ → List ℕ
put_first size mark place chains = set (set chains (size + place) (get_or chains mark 0)) mark (place + 1)

-- The place of the first term that is like this one; where there is none, how many they are.
unfoldable pub first_like : List ℕ → List (List ℕ) → ℕ
first_like term terms = leading (λ other. not (alike term other)) terms
