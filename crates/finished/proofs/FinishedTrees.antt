-- Lawful merges end in a finished tree.
use mathlib.Core.List.{List}
use Prim.Native.Nat.{ℕ, ◌-◌}
use native.Mathlib.Omega.{arith}
use Rattle.entities.specs.declared.Triple.{Triple}
use Rattle.tree.specs.Accepted.{IsTree}
use Rattle.tree.proofs.Under.{met}
use Rattle.tree.proofs.FinishedTables.{tree_finished}
use Rattle.finished.specs.Finished.{AllMerged, tree_of, LawfulFinishes}
use Rattle.finished.proofs.Merged.{Merged}
use Rattle.finished.proofs.LaidMerged.{laid_merged}
use Rattle.finished.proofs.UnderMerged.{code_once, absent_once}
use Rattle.finished.proofs.ChainsMerged.{pair_merged}

pub merged_tree : (modes : ℕ) (history : List Triple) → AllMerged modes history → (table : List ℕ) → Merged modes history table
    → IsTree modes table (modes - 1)
unfolding met
merged_tree modes history merges table merged =
    record {
      inside = omega (arith, merges.some_modes);
      each_once = code_once modes history merges table merged;
      absent_once = absent_once modes history merges table merged;
      pairs = pair_merged modes history merges table merged;
    }

pub lawful_finishes : LawfulFinishes
lawful_finishes most modes history merges few =
    let merged = laid_merged modes history merges in
    tree_finished most modes (modes - 1) (tree_of modes history) few merges.few_modes merged.whole
    (merged_tree modes history merges (tree_of modes history) merged)
