-- "Numbers are decimal, 1 to 5 digits, at most 65535, no leading zero except 0 itself."
use Rattle.std.specs.Prelude.{Bool, true, cond, not, ◌&&◌, List, [], ◌∷◌, ◌++◌, ℕ, zero, suc, ◌+◌, ◌-◌, ◌*◌, ◌/◌, ◌%◌, eqb, ltb, leb, length}
use Rattle.lists.specs.Members.{every}

-- "bytes 48 to 57".
unfoldable pub is_digit : ℕ → Bool
is_digit byte = leb 48 byte && leb byte 57

-- The number that digits say, behind what was said before them.
unfoldable pub value_after : ℕ → List ℕ → ℕ
value_after so_far [] = so_far
value_after so_far (byte ∷ rest) = value_after (10 * so_far + (byte - 48)) rest

-- The number that digits say.
unfoldable pub value : List ℕ → ℕ
value bytes = value_after 0 bytes

-- "no leading zero except 0 itself".
unfoldable pub leads_well : List ℕ → Bool
leads_well [] = true
leads_well (byte ∷ []) = true
leads_well (byte ∷ (next ∷ rest)) = not (eqb byte 48)

-- The whole sentence.
unfoldable pub is_number : List ℕ → Bool
is_number bytes =
    every is_digit bytes
    && (leb 1 (length bytes) && (leb (length bytes) 5 && (leads_well bytes && leb (value bytes) 65535)))

-- A number's digits, at most so many.
unfoldable pub digits : ℕ → ℕ → List ℕ
digits zero number = []
digits (suc more) number = cond (ltb number 10) [] (digits more (number / 10)) ++ ((48 + number % 10) ∷ [])

-- A number as text, of as many digits as it has; twenty hold any number of 64 bits.
unfoldable pub decimal : ℕ → List ℕ
decimal number = digits 20 number
