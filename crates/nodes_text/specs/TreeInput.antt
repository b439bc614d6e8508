-- A tree as text: `node` lines as `hatt` prints them, "label, X, Y, Z codes", in any order; "Text writes "-" for" the absent child.
use Rattle.std.specs.Prelude.{Bool, cond, not, ◌&&◌, ◌||◌, ℕ, min, eqb, ltb, leb, length, get_or, drop}
use mathlib.Core.List.{List, [], map, flat_map}
use Rattle.lists.specs.Members.{every, leading, alike}
use Rattle.entities.specs.Codes.{absent}
use Rattle.fields.specs.Texts.{spelt}
use Rattle.fields.specs.Decimal.{is_number, value}
use Rattle.fields.specs.Lines.{lines, kept_of}
use Rattle.fields.specs.Fields.{fields}

-- A code's field: `-` for the absent child, whose number is not written, or another number.
unfoldable pub is_code : List ℕ → Bool
is_code field = alike field (spelt "-") || (is_number field && ltb (value field) absent)

unfoldable pub code_said : List ℕ → ℕ
code_said field = cond (alike field (spelt "-")) absent (value field)

-- A line's fields say a node: the word, a label, and the codes of X, Y and Z.
unfoldable pub says_node : List (List ℕ) → Bool
says_node parts =
    alike (get_or parts 0 []) (spelt "node")
    && (eqb (length parts) 5 && (every is_code (drop 1 parts) && not (alike (get_or parts 1 []) (spelt "-"))))

-- The row of a line: label, X, Y, Z.
unfoldable pub node_row : List ℕ → List ℕ
node_row line = map code_said (drop 1 (fields line))

-- How many lines say a node before the first that doesn't; more than `most` nodes are malformed, as too many terms are.
unfoldable pub nodes_formed : ℕ → List ℕ → ℕ
nodes_formed most bytes = min most (leading (λ line. says_node (fields line)) (lines bytes))

-- What a text says: the rows of a tree's nodes, or the line at which it is malformed.
pub data TreeSaid : Type 0 where
  nodes : List ℕ → TreeSaid
  malformed : ℕ → TreeSaid

-- As of a program's terms, a last line without LF is malformed, and an empty text is at line 0.
unfoldable pub tree_whole : ℕ → List ℕ → Bool
tree_whole most bytes =
    leb 1 (length (lines bytes))
    && (eqb (nodes_formed most bytes) (length (lines bytes)) && eqb (length (kept_of bytes)) (length bytes))

unfoldable pub tree_said : ℕ → List ℕ → TreeSaid
tree_said most bytes =
    cond (tree_whole most bytes) (nodes (flat_map node_row (lines bytes))) (malformed (nodes_formed most bytes))
