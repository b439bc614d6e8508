-- Nodes in any order laid out as a tree table, "X, Y, Z of node 0..n-1, three codes a node".
use Rattle.std.specs.Prelude.{cond, List, [], ◌∷◌, ℕ, ◌+◌, ◌*◌, ◌/◌, ltb, length, replicate}
use Rattle.lists.specs.Written.{written_at}
use Rattle.entities.specs.Codes.{absent}

-- A node's three children put in their place, where the table has it.
unfoldable pub row_over : List ℕ → ℕ → List ℕ → List ℕ
row_over table label children = cond (ltb (3 * label + 2) (length table)) (written_at (3 * label) children table) table

-- Rows of four, a label and three codes, laid over a table one after the other.
unfoldable pub laid_over : List ℕ → List ℕ → List ℕ
laid_over table [] = table
laid_over table (label ∷ []) = table
laid_over table (label ∷ (x ∷ [])) = table
laid_over table (label ∷ (x ∷ (y ∷ []))) = table
laid_over table (label ∷ (x ∷ (y ∷ (z ∷ rows)))) = laid_over (row_over table label (x ∷ (y ∷ (z ∷ [])))) rows

-- The table of n modes that rows make; a node without a row has no children there.
unfoldable pub laid : ℕ → List ℕ → List ℕ
laid modes rows = laid_over (replicate (3 * modes) absent) rows

-- The modes of a tree whose rows these are.
unfoldable pub modes_in : List ℕ → ℕ
modes_in rows = length rows / 4

-- The table of a tree whose rows these are.
abbrev pub table_of : List ℕ → List ℕ
table_of rows = laid (modes_in rows) rows
