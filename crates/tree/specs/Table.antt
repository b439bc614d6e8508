-- "The tree table gives X, Y, Z of node 0..n-1, three codes a node."
use Rattle.std.specs.Prelude.{true, false, cond, List, ℕ, zero, suc, ◌+◌, ◌*◌, ◌/◌, eqb, ltb, length, get_or}
use Rattle.lists.specs.Members.{leading}
use Rattle.lists.specs.Ranges.{listed}
use Rattle.entities.specs.Codes.{absent}

-- The nodes, ascending.
unfoldable pub nodes : ℕ → List ℕ
nodes modes = listed (λ node. node) 0 modes

-- The child of a node under X (edge 0), Y (1) or Z (2).
unfoldable pub child : List ℕ → ℕ → ℕ → ℕ
child table node edge = get_or table (3 * node + edge) absent

-- The first place at which a code stands in the table; the table's length where it stands nowhere.
unfoldable pub place_of_code : List ℕ → ℕ → ℕ
place_of_code table code = leading (λ other. cond (eqb other code) false true) table

-- The node under which a code stands; a code that stands nowhere is its own.
unfoldable pub parent_of : List ℕ → ℕ → ℕ
parent_of table code = cond (ltb (place_of_code table code) (length table)) (place_of_code table code / 3) code

-- So many steps up from a node.
unfoldable pub climb : List ℕ → ℕ → ℕ → ℕ
climb table zero node = node
climb table (suc steps) node = climb table steps (parent_of table node)
