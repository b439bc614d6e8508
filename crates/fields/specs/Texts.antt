-- Texts as they are spelt, and the bytes that they are.
use Rattle.std.specs.Prelude.{List, ℕ}
use mathlib.Core.List as Bytes
use Prim.Native.String.{String, [], ◌∷◌}
use Prim.Native.Char.{code}

-- The bytes of a text whose characters are a byte each.
abbrev pub spelt : String → List ℕ
spelt [] = Bytes.[]
spelt (character ∷ rest) = Bytes.◌∷◌ (code character) (spelt rest)
