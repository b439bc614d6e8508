-- "There every slice is bytes: a 16-bit number is two, low byte first"; the numbers of an answer are "eight bytes each, low byte first".
use mathlib.Core.List.{List, [], ◌∷◌, flat_map}
use Rattle.std.specs.Prelude.{ℕ, ◌+◌, ◌*◌, ◌/◌, ◌%◌, ◌^◌, length, get_or}
use Rattle.lists.specs.Ranges.{listed}

-- The number that two bytes say.
unfoldable pub word_at : List ℕ → ℕ → ℕ
word_at bytes place = get_or bytes (2 * place) 0 + 256 * get_or bytes (2 * place + 1) 0

-- The numbers that bytes say.
unfoldable pub words : List ℕ → List ℕ
words bytes = listed (word_at bytes) 0 (length bytes / 2)

-- The bytes of numbers.
unfoldable pub two_bytes : List ℕ → List ℕ
two_bytes numbers = flat_map (λ number. number % 256 ∷ (number / 256 ∷ [])) numbers

-- The eight bytes of a number.
unfoldable pub eight_bytes : ℕ → List ℕ
eight_bytes number = listed (λ place. number / 256 ^ place % 256) 0 8
