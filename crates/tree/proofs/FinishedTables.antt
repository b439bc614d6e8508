-- Accepted tables, and tables of 3n codes that are trees, are finished trees.
use mathlib.Core.Path.{◌≡◌, ap, ◌∙◌}
use mathlib.Core.List.{List}
use Prim.Native.Nat.{ℕ, ◌*◌, ◌≤◌}
use lib.ListN.{length}
use Rattle.entities.specs.Codes.{absent}
use Rattle.tree.specs.Pairs.{chain_end}
use Rattle.tree.specs.Accepted.{IsTree}
use Rattle.tree.specs.Finished.{FinishedTree, AcceptedFinished}
use Rattle.tree.proofs.AcceptedTree.{accepted_is_tree, tree_accepted, only_root}
use Rattle.tree.proofs.AbsentEnds.{absent_ends}

pub accepted_finished : AcceptedFinished
accepted_finished most modes table accepted =
    record {
      accepted = accepted;
      is_tree = accepted_is_tree most modes table accepted;
      absent_ends = absent_ends most modes table accepted;
    }

pub tree_finished : (most modes root : ℕ) (table : List ℕ) → modes ≤ most → 3 * modes ≤ absent → length table ≡ 3 * modes
    → IsTree modes table root → FinishedTree most modes root table
tree_finished most modes root table few small whole tree =
    let accepted = tree_accepted most modes table root few small whole tree in
    record {
      accepted = accepted;
      is_tree = tree;
      absent_ends = ap (chain_end modes table modes) (only_root modes table root small whole tree) ∙ absent_ends most modes table accepted;
    }
