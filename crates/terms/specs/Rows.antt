-- "Terms T: 0 to 2048, in rows of eight u16: a length 1 to 7, that many indices, then zeros."
use Rattle.std.specs.Prelude.{List, [], ◌∷◌, map, ℕ, zero, suc, get_or, take, drop}

-- The first rows of `width` numbers each.
unfoldable pub rows_of : ℕ → ℕ → List ℕ → List (List ℕ)
rows_of width zero numbers = []
rows_of width (suc count) numbers = take width numbers ∷ rows_of width count (drop width numbers)

-- The term of a row: as many indices after the first number as it says.
unfoldable pub term : List ℕ → List ℕ
term row = take (get_or row 0 0) (drop 1 row)

-- The terms of the first rows.
unfoldable pub terms_of : ℕ → ℕ → List ℕ → List (List ℕ)
terms_of width count numbers = map term (rows_of width count numbers)
