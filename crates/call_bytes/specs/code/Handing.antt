-- What the code of a call hands on, so that each refusal is given in its turn: a made-up number where bytes are no terms, and no room where the
-- answer has none.
use Rattle.std.specs.Prelude.{cond, List, [], ◌∷◌, ℕ, ◌*◌, ◌/◌, ◌%◌, min, eqb, leb, length}
use Rattle.call_bytes.specs.Bytes.{words}

-- The numbers of the terms; bytes that don't come in 16s are no rows of eight: one number stands for them, which is refused by 2.
unfoldable pub term_numbers : List ℕ → List ℕ
term_numbers bytes = cond (eqb (length bytes % 16) 0) (words bytes) (0 ∷ [])

-- The room for rows, in numbers, of so many bytes and so many of the answer; the call's own rows have a room too, and where the answer's
-- numbers, eight bytes each, don't fit there is none.
unfoldable pub room_of : ℕ → ℕ → ℕ → ℕ → ℕ
room_of numbers own bytes answer = cond (leb (8 * numbers) answer) (min own (bytes / 2)) 0
