-- "one record a line: the number, a tab, then n letters"; "Text room is the exact length. Refusals: 1, 13 to 16, then 5".
use Rattle.refusal.specs.declared.Refusal.{Refusal}
use mathlib.Core.List.{List, ◌++◌, map, flat_map}
use Prim.Native.Char.{code}
use Rattle.std.specs.Prelude.{ℕ, ◌+◌, ◌*◌, length, Result}
use Rattle.lists.specs.Counting.{sum}
use Rattle.lists.specs.Ranges.{listed}
use Rattle.fields.specs.Texts.{spelt}
use Rattle.fields.specs.Decimal.{decimal}
use Rattle.terms.specs.declared.letters.Letter.{Letter}
use Rattle.terms.specs.Letters.{letter_byte}
use Rattle.tree.specs.Writing.{tree_written}
use Rattle.strings.specs.Strings.{string}

-- "letters I, X, Y, Z": a letter's byte, none's being `I`.
unfoldable pub string_sign : Letter → ℕ
string_sign letter = letter_byte (code "I") letter

-- A string as text.
unfoldable pub string_bytes : ℕ → List ℕ → ℕ → List ℕ
string_bytes modes table majorana = map string_sign (string modes table majorana)

-- "the number, a tab, then n letters".
unfoldable pub string_line : ℕ → List ℕ → ℕ → List ℕ
string_line modes table majorana = decimal majorana ++ (spelt "\t" ++ (string_bytes modes table majorana ++ spelt "\n"))

-- "each Majorana 0..2n-1".
unfoldable pub majoranas : ℕ → List ℕ
majoranas modes = listed (λ majorana. majorana) 0 (2 * modes)

-- The text of a table: "one record a line".
unfoldable pub strings_text : ℕ → List ℕ → List ℕ
strings_text modes table = flat_map (string_line modes table) (majoranas modes)

-- "the exact length", which every table of n modes has: a line is the number's digits, a tab, n letters and LF.
unfoldable pub line_length : ℕ → ℕ → ℕ
line_length modes majorana = length (decimal majorana) + (modes + 2)

unfoldable pub strings_length : ℕ → ℕ
strings_length modes = sum (map (line_length modes) (majoranas modes))

-- The call `write_strings` into so much room.
unfoldable pub strings_written : ℕ → ℕ → List ℕ → ℕ → Result ℕ Refusal
strings_written most modes table room = tree_written most modes table (strings_text modes table) room
