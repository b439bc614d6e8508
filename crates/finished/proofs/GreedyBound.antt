-- Greedy weight is at most the weight of the tree that the merges end in.
use mathlib.Core.Path.{◌≡◌, refl, ap, ◌∙◌, sym}
use mathlib.Core.Bool.{Bool, true, false, cond}
use mathlib.Core.List.{List}
use Prim.Native.Nat.{ℕ, suc, ◌+◌, ◌-◌, ◌*◌}
use native.Mathlib.Omega.{arith}
use borrow.Author.Tests.{eqb-true}
use lib.Dec.{eqb, ltb}
use Rattle.lists.specs.Counting.{occurrences}
use Rattle.lists.specs.Members.{every}
use Rattle.lists.proofs.Totals.{total}
use Rattle.lists.proofs.Sums.{sum_of, sum_listed}
use Rattle.entities.specs.declared.Triple.{Triple}
use Rattle.entities.specs.Parents.{parent_number}
use Rattle.entities.specs.Codes.{child_code}
use Rattle.entities.proofs.ChildCodes.{code_node}
use Rattle.history.proofs.OpenSums.{one_root}
use Rattle.tree.specs.Table.{nodes}
use Rattle.tree.specs.OneTree.{root_of}
use Rattle.tree.proofs.AcceptedParts.{accepted_parts}
use Rattle.tree.proofs.AcceptedTree.{accepted_says, tree_accepted, only_root}
use Rattle.tree.proofs.AbsentEnds.{child_place}
use Rattle.tree_weight.specs.Weight.{edge_under, node_weight, row_weight, listed_weight}
use Rattle.tree_weight.proofs.CountedOnce.{all_different}
use Rattle.finished.specs.Finished.{AllMerged, tree_of}
use Rattle.finished.specs.GreedyBound.{GreedyAtMostListed, GreedyAtMostTree}
use Rattle.lists.proofs.SumsCompared.{sum_same, sum_total}
use Rattle.finished.proofs.Merged.{Merged}
use Rattle.finished.proofs.LaidMerged.{laid_merged}
use Rattle.finished.proofs.FinishedTrees.{merged_tree}
use Rattle.history.proofs.OpenOver.{open_over, over_open}
use Rattle.finished.proofs.EdgesMerged.{edge_at, known_or, climbs_up, none_up}
use Rattle.finished.proofs.StepsWeighed.{EdgesKnown, run_at_most}

known_or_none : (edge : ℕ) → known_or edge 3 ≡ edge
unfolding known_or
known_or_none edge = go (eqb edge 3) refl
  where
    go : (b : Bool) → eqb edge 3 ≡ b → cond b 3 edge ≡ edge
    go true q = sym (eqb-true edge 3 q)
    go false q = refl

-- After n merges the way up from every leaf ends at the root, which stands nowhere.
module _ (modes : ℕ) (history : List Triple) (merges : AllMerged modes history) (table : List ℕ) (merged : Merged modes history table) where
  pub edges_known : EdgesKnown modes table history
  edges_known node leaf made low =
      let tree = merged_tree modes history merges table merged in
      let accepted = tree_accepted modes modes table (modes - 1) (omega arith) merges.few_modes merged.whole tree in
      let says = accepted_says modes modes table accepted in
      let places = child_place modes table merged.whole (accepted_parts modes modes table accepted).good (root_of modes table) says in
      let up = climbs_up modes table merged.whole places history (omega (arith, merges.all)) merged leaf low in
      let steps : up.hops + (suc modes - up.hops) ≡ suc modes = omega (arith, up.few, merges.all) in
      let start : modes + leaf ≡ leaf + modes = omega arith in
      let root : parent_number modes (modes - 1) ≡ 3 * modes = omega (arith, merges.some_modes) in
      let alone = (one_root modes history merges.lawful merges.all merges.some_modes).alone in
      let last : child_code modes (2 * modes) (open_over modes history leaf) ≡ modes - 1 =
      ap (child_code modes (2 * modes))
      (alone (open_over modes history leaf) (over_open modes history leaf (omega arith)) ∙ sym root)
      ∙ code_node modes (modes - 1) in
      let nowhere : occurrences (modes - 1) table ≡ 0 =
      ap (λ v. occurrences v table) (only_root modes table (modes - 1) merges.few_modes merged.whole tree) ∙ says.top in
      ap (edge_under table (suc modes) node) start
      ∙ ap (λ n. edge_under table n node (leaf + modes)) (sym steps)
      ∙ up.climbs (suc modes - up.hops) node
      ∙ ap (known_or (edge_at modes history node leaf))
      (ap (edge_under table (suc modes - up.hops) node) last
      ∙ none_up modes table merged.whole places (modes - 1) nowhere (suc modes - up.hops) node)
      ∙ known_or_none (edge_at modes history node leaf)

pub greedy_at_most_listed : GreedyAtMostListed
unfolding listed_weight row_weight nodes
greedy_at_most_listed job history merges low =
    let modes = job.modes in
    let table = tree_of modes history in
    let known = edges_known modes history merges table (laid_merged modes history merges) in
    let by_rows : listed_weight modes table job.terms ≡ sum_of (λ term. total (node_weight modes table term) modes) job.terms =
    sum_same (every (λ index. ltb index (2 * modes))) (row_weight modes table) (λ term. total (node_weight modes table term) modes)
    (λ term below. sum_listed (node_weight modes table term) modes) job.terms low in
    let by_nodes = sum_total (node_weight modes table) modes job.terms in
    let steps = rw merges.all at (run_at_most job table low history merges.lawful known) in
    omega arith

pub greedy_at_most_tree : GreedyAtMostTree
greedy_at_most_tree job history merges low different =
    omega (
      arith,
      greedy_at_most_listed job history merges low,
      all_different job.modes (tree_of job.modes history) job.terms low different,
    )
