-- "A term is a product of Majoranas: equal indices cancel in pairs, and rows with the same surviving indices are the same operator."
use Rattle.std.specs.Prelude.{◌≡◌, List, map, ℕ, ◌%◌, ◌<◌}
use Rattle.lists.specs.Counting.{occurrences}
use Rattle.lists.specs.Members.{keep, alike, firsts}
use Rattle.lists.specs.Ranges.{listed}
use Rattle.terms.specs.Letters.{odd}

-- The indices below a bound that survive: those that occur an odd number of times, ascending, each once.
unfoldable pub surviving : ℕ → List ℕ → List ℕ
surviving bound term = keep (λ index. odd (occurrences index term)) (listed (λ index. index) 0 bound)

-- The different operators of the rows.
unfoldable pub operators : ℕ → List (List ℕ) → List (List ℕ)
operators bound terms = firsts alike (map (surviving bound) terms)

-- "equal indices cancel in pairs": two rows whose indices agree in parity have the same surviving indices.
abbrev pub ParitySurvives : Type 0
ParitySurvives =
    (bound : ℕ) (term other : List ℕ)
    → ((index : ℕ) → index < bound → occurrences index term % 2 ≡ occurrences index other % 2)
    → surviving bound term ≡ surviving bound other
