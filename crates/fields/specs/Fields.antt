-- "Lines of text, …, fields parted by tabs, each ended by LF."
use Rattle.std.specs.Prelude.{cond, List, [], ◌∷◌, ◌++◌, ℕ, ◌-◌, eqb, length, take}

-- The fields of a text parted by tabs, the first of them begun already.
unfoldable pub fields_after : List ℕ → List ℕ → List (List ℕ)
fields_after begun [] = begun ∷ []
fields_after begun (byte ∷ rest) =
    cond (eqb byte 9) (begun ∷ []) [] ++ fields_after (cond (eqb byte 9) [] (begun ++ (byte ∷ []))) rest

-- The fields of a line, without its LF.
unfoldable pub fields : List ℕ → List (List ℕ)
fields line = fields_after [] (take (length line - 1) line)

-- Fields parted by tabs.
unfoldable pub tabbed : List (List ℕ) → List ℕ
tabbed [] = []
tabbed (field ∷ []) = field
tabbed (field ∷ (next ∷ rest)) = field ++ (9 ∷ tabbed (next ∷ rest))
