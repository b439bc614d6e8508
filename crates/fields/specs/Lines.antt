-- "Lines of text, counted from 0, … each ended by LF. … Bytes after the last LF are dropped."
use Rattle.std.specs.Prelude.{Bool, false, cond, ℕ, eqb, length, get_or}
use mathlib.Core.List.{List, [], ◌∷◌, ◌++◌, flat_map}

-- The complete lines of a text, LF included, the first of them begun already.
unfoldable pub lines_after : List ℕ → List ℕ → List (List ℕ)
lines_after begun [] = []
lines_after begun (byte ∷ rest) =
    cond (eqb byte 10) ((begun ++ (byte ∷ [])) ∷ []) [] ++ lines_after (cond (eqb byte 10) [] (begun ++ (byte ∷ []))) rest

-- The complete lines of a text.
unfoldable pub lines : List ℕ → List (List ℕ)
lines bytes = lines_after [] bytes

-- The first complete line, or an empty one where there is none.
unfoldable pub first_line : List ℕ → List ℕ
first_line bytes = get_or (lines bytes) 0 []

-- "kept bytes (through the last LF)".
unfoldable pub kept_of : List ℕ → List ℕ
kept_of bytes = flat_map (λ line. line) (lines bytes)

-- "complete lines of the first count before those of the second; a missing line gives an empty part".
unfoldable pub found_line : List ℕ → List ℕ → ℕ → List ℕ
found_line kept new line = get_or (lines kept ++ lines new) line []

-- The text is one line: an LF ends it, and there is no other.
unfoldable pub is_line : List ℕ → Bool
is_line [] = false
is_line (byte ∷ rest) = cond (eqb byte 10) (eqb (length rest) 0) (is_line rest)
