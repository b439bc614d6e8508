-- "The program `hatt` reads standard input, first line `modes` TAB n, then `term` TAB indices; numbers as in the journal, lines counted from 0."
use Rattle.std.specs.Prelude.{Bool, cond, ◌&&◌, ℕ, suc, ◌-◌, eqb, leb, length, get_or, drop, replicate}
use mathlib.Core.List.{List, [], ◌∷◌, ◌++◌, map, flat_map}
use Rattle.lists.specs.Members.{every, alike}
use Rattle.fields.specs.Texts.{spelt}
use Rattle.fields.specs.Decimal.{is_number, value}
use Rattle.fields.specs.Lines.{lines, kept_of}
use Rattle.fields.specs.Fields.{fields}

-- "first line `modes` TAB n".
unfoldable pub modes_line : List (List ℕ) → Bool
modes_line parts = eqb (length parts) 2 && (alike (get_or parts 0 []) (spelt "modes") && every is_number (drop 1 parts))

-- "then `term` TAB indices. … No index, more than seven, … is 18".
unfoldable pub term_line : List (List ℕ) → Bool
term_line parts =
    alike (get_or parts 0 []) (spelt "term") && (leb 2 (length parts) && (leb (length parts) 8 && every is_number (drop 1 parts)))

-- A line in its place; "more than 2048 terms" is malformed, where `most` is the 2048.
unfoldable pub well_formed : ℕ → ℕ → List ℕ → Bool
well_formed most number line =
    cond (eqb number 0) (modes_line (fields line)) (leb number most && term_line (fields line))

-- How many lines are well formed before the first that isn't, counted on from a number.
unfoldable pub formed_from : ℕ → ℕ → List (List ℕ) → ℕ
formed_from most number [] = 0
formed_from most number (line ∷ rest) =
    let more = formed_from most (suc number) rest in
    cond (well_formed most number line) (suc more) 0

-- How many lines of the text are.
unfoldable pub formed : ℕ → List ℕ → ℕ
formed most bytes = formed_from most 0 (lines bytes)

-- A term's row of eight: "a length 1 to 7, that many indices, then zeros".
unfoldable pub term_row : List ℕ → List ℕ
term_row line =
    let indices = map value (drop 1 (fields line)) in
    length indices ∷ (indices ++ replicate (7 - length indices) 0)

-- What a text says: the modes and the terms' numbers, or the line at which it is malformed.
pub data Said : Type 0 where
  given : ℕ → List ℕ → Said
  malformed : ℕ → Said

-- "a last line without LF is 18, at the first such line …; empty input is 18 at line 0".
unfoldable pub whole : ℕ → List ℕ → Bool
whole most bytes = leb 1 (length (lines bytes)) && (eqb (formed most bytes) (length (lines bytes)) && eqb (length (kept_of bytes)) (length bytes))

unfoldable pub said : ℕ → List ℕ → Said
said most bytes =
    cond (whole most bytes)
    (given (value (get_or (fields (get_or (lines bytes) 0 [])) 1 [])) (flat_map term_row (drop 1 (lines bytes))))
    (malformed (formed most bytes))
