-- The test of one tree with its root found beforehand, as the code has it.
use mathlib.Core.Path.{◌≡◌}
use mathlib.Core.Bool.{cond, ◌&&◌}
use mathlib.Core.List.{List}
use Prim.Native.Nat.{ℕ}
use lib.Dec.{eqb}
use Rattle.lists.specs.Counting.{occurrences}
use Rattle.lists.specs.Members.{every}
use Rattle.entities.specs.Codes.{absent}
use Rattle.tree.specs.Table.{nodes, climb}
use Rattle.tree.specs.OneTree.{root_of, leaves_once, absent_once, nodes_once, all_reached, one_tree}

pub one_tree_by : (modes : ℕ) (table : List ℕ) (root : ℕ) → root ≡ climb table modes 0
    → one_tree modes table
    ≡ (leaves_once modes table
    && (eqb (occurrences absent table) 1
    && (every (λ node. eqb (occurrences node table) (cond (eqb node root) 0 1)) (nodes modes)
    && every (λ node. eqb (climb table modes node) root) (nodes modes))))
unfolding one_tree absent_once nodes_once all_reached root_of
one_tree_by modes table root e = simp e
