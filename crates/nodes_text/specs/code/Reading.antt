-- What the code that reads a tree's text tells of it, part by part.
use Rattle.refusal.specs.declared.Refusal.{Refusal}
use Rattle.refusal.specs.declared.Refusal.TheVariants.{Malformed}
use Rattle.refusal.specs.Numbers.{place_of}
use Rattle.std.specs.Prelude.{◌≡◌, Bool, true, List, ℕ, ◌*◌, ◌≤◌, take, Ok, Err, Result}
use Rattle.lists.specs.Written.{written_at}
use Rattle.fields.specs.Fields.{fields}
use Rattle.nodes_text.specs.TreeInput.{says_node, node_row, TreeSaid, nodes, malformed}

-- A line read as a node, into a row.
pub record NodeRead (line after : List ℕ) (r : Bool) : Type 0 where
  pub good : r ≡ says_node (fields line)
  pub row : r ≡ true → after ≡ node_row line

-- The same, into a place among many rows.
pub record NodePut (line : List ℕ) (place : ℕ) (before after : List ℕ) (r : Bool) : Type 0 where
  pub good : r ≡ says_node (fields line)
  pub row : r ≡ true → after ≡ written_at place (node_row line) before

-- So many nodes are read, at most as many as there may be, and their rows stand in front.
pub record NodesFound (most : ℕ) (meant : TreeSaid) (rows : List ℕ) (count : ℕ) : Type 0 where
  pub says : meant ≡ nodes (take (4 * count) rows)
  pub few : count ≤ most

-- A text read: the answer says what the text says.
abbrev pub Reads : ℕ → TreeSaid → List ℕ → Result ℕ Refusal → Type 0
Reads most meant rows (Ok count) = NodesFound most meant rows count
Reads most meant rows (Err why) = (why ≡ Malformed (place_of why)) × (meant ≡ malformed (place_of why))
