-- What the code that reads a tree tells of it, and asks of its rows.
use Rattle.refusal.specs.declared.Refusal.{Refusal}
use Rattle.refusal.specs.declared.Refusal.TheVariants.{Malformed}
use Rattle.refusal.specs.Numbers.{place_of}
use Rattle.std.specs.Prelude.{◌≡◌, List, ℕ, ◌*◌, ◌≤◌, length, take, Ok, Err, Result}
use Rattle.tree.specs.Laying.{modes_in, table_of}
use Rattle.nodes_text.specs.TreeInput.{TreeSaid, nodes, malformed}

-- So many nodes are read, at most as many as there may be: their rows stand in front of one list, and the table of the rows in front of another.
pub record TreeRead (most : ℕ) (meant : TreeSaid) (rows table : List ℕ) (count : ℕ) : Type 0 where
  pub says : meant ≡ nodes (take (4 * count) rows)
  pub few : count ≤ most
  pub exact : modes_in (take (4 * count) rows) ≡ count
  pub laid : take (3 * count) table ≡ table_of (take (4 * count) rows)

abbrev pub ReadsTree : ℕ → TreeSaid → List ℕ → List ℕ → Result ℕ Refusal → Type 0
ReadsTree most meant rows table (Ok count) = TreeRead most meant rows table count
ReadsTree most meant rows table (Err why) = (why ≡ Malformed (place_of why)) × (meant ≡ malformed (place_of why))

-- Rows of four, at most so many.
pub record RowsFit (most : ℕ) (rows : List ℕ) : Type 0 where
  pub exact : length rows ≡ 4 * modes_in rows
  pub few : modes_in rows ≤ most
