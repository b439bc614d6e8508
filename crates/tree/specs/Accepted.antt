-- "Accepted trees: one root, every node reached, each other node and each leaf exactly once, one absent child; and for each k, leaves 2k
-- and 2k+1 end the z-chains from one node's X and Y children, 2k under X", as a reader goes down the tree.
use Rattle.std.specs.Prelude.{◌≡◌, cond, List, [], ◌∷◌, ◌++◌, ℕ, zero, suc, ◌+◌, ◌*◌, ◌<◌, ◌≤◌, ltb, length, Ok}
use Rattle.lists.specs.Counting.{occurrences}
use Rattle.entities.specs.Codes.{absent}
use Rattle.tree.specs.Table.{child}
use Rattle.tree.specs.OneTree.{root_of}
use Rattle.tree.specs.Pairs.{chain_end}
use Rattle.tree.specs.Check.{tree_checked}

-- The codes met going down from a code through at most so many nodes: the code, and where it is a node those under its three children.
unfoldable pub under : ℕ → List ℕ → ℕ → ℕ → List ℕ
under modes table zero code = cond (ltb code modes) [] (code ∷ [])
under modes table (suc nodes) code =
    code
    ∷ cond (ltb code modes)
    (under modes table nodes (child table code 0) ++ (under modes table nodes (child table code 1) ++ under modes table nodes (child table code 2)))
    []

-- Leaves 2k and 2k+1 end the z-chains from this node's X and Y children.
pub record PairUnder (modes : ℕ) (table : List ℕ) (k node : ℕ) : Type 0 where
  pub inside : node < modes
  pub even : chain_end modes table modes (child table node 0) ≡ modes + 2 * k
  pub odd : chain_end modes table modes (child table node 1) ≡ modes + 2 * k + 1

-- The table is one tree with this root, each part of it once, and its pairs are right.
pub record IsTree (modes : ℕ) (table : List ℕ) (root : ℕ) : Type 0 where
  pub inside : root < modes
  pub each_once : (code : ℕ) → code < 3 * modes → occurrences code (under modes table (suc modes) root) ≡ 1
  pub absent_once : occurrences absent (under modes table (suc modes) root) ≡ 1
  pub pairs : (k : ℕ) → k < modes → (node : ℕ) × PairUnder modes table k node

-- An accepted table is such a tree, and every table of 3n codes that is one is accepted.
abbrev pub AcceptedIsTree : Type 0
AcceptedIsTree =
    (most modes : ℕ) (table : List ℕ) → tree_checked most modes table ≡ Ok tt → IsTree modes table (root_of modes table)

abbrev pub TreeIsAccepted : Type 0
TreeIsAccepted =
    (most modes : ℕ) (table : List ℕ) (root : ℕ) → modes ≤ most → 3 * modes ≤ absent → length table ≡ 3 * modes
    → IsTree modes table root → tree_checked most modes table ≡ Ok tt
