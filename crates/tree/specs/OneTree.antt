-- "Accepted trees: one root, every node reached, each other node and each leaf exactly once, one absent child".
use Rattle.std.specs.Prelude.{Bool, cond, ◌&&◌, List, ℕ, ◌*◌, eqb}
use Rattle.lists.specs.Counting.{occurrences}
use Rattle.lists.specs.Members.{every}
use Rattle.lists.specs.Ranges.{listed}
use Rattle.entities.specs.Codes.{absent}
use Rattle.tree.specs.Table.{nodes, climb}

-- The root, if there is one: where n steps up from node 0 arrive.
unfoldable pub root_of : ℕ → List ℕ → ℕ
root_of modes table = climb table modes 0

-- "each leaf exactly once".
unfoldable pub leaves_once : ℕ → List ℕ → Bool
leaves_once modes table = every (λ code. eqb (occurrences code table) 1) (listed (λ code. code) modes (2 * modes))

-- "one absent child".
unfoldable pub absent_once : List ℕ → Bool
absent_once table = eqb (occurrences absent table) 1

-- "one root, … each other node … exactly once": the root stands nowhere.
unfoldable pub nodes_once : ℕ → List ℕ → Bool
nodes_once modes table =
    every (λ node. eqb (occurrences node table) (cond (eqb node (root_of modes table)) 0 1)) (nodes modes)

-- "every node reached": n steps up from each node arrive at the root.
unfoldable pub all_reached : ℕ → List ℕ → Bool
all_reached modes table = every (λ node. eqb (climb table modes node) (root_of modes table)) (nodes modes)

-- The whole sentence.
unfoldable pub one_tree : ℕ → List ℕ → Bool
one_tree modes table =
    leaves_once modes table && (absent_once table && (nodes_once modes table && all_reached modes table))
