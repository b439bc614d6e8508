-- Acceptance as a reader states it: going down from the root meets every node, every leaf and the absent child exactly once,
-- and for each k one node's X and Y z-chains end in leaves 2k and 2k+1.
use Rattle.std.specs.Prelude.{Ok}
use mathlib.Core.Path.{◌≡◌, refl, ◌∙◌, sym}
use mathlib.Core.Bool.{Bool, true, false, and-eq-true_iff}
use mathlib.Core.List.{List}
use Prim.Native.Nat.{ℕ, zero, suc, ◌+◌, ◌*◌, ◌<◌, ◌≤◌}
use native.Mathlib.Nat.{zero-add}
use native.Mathlib.Omega.{arith}
use borrow.Author.Tests.{eq-eqb, eqb-true, eqb-false, ltb-true, ltb-false}
use lib.Dec.{eqb, ltb}
use lib.ListN.{length}
use Rattle.lists.specs.Counting.{occurrences}
use Rattle.lists.proofs.Leading.{leads}
use Rattle.lists.proofs.Sums.{same_one, same_none}
use Rattle.lists.proofs.Listed.{listed_at}
use Rattle.lists.proofs.Ranges.{some_within, some_from, leading_from}
use Rattle.entities.specs.Codes.{absent}
use Rattle.tree.specs.Table.{nodes, child, climb}
use Rattle.tree.specs.OneTree.{root_of}
use Rattle.tree.specs.Pairs.{chain_end, pair_under, pair_right, pairs_right}
use Rattle.tree.specs.Check.{tree_checked}
use Rattle.tree.specs.Accepted.{PairUnder, IsTree, AcceptedIsTree, TreeIsAccepted}
use Rattle.tree.proofs.AcceptedParts.{accepted_parts, parts_accepted}
use Rattle.tree.proofs.OneTreeSays.{OneTreeSays, one_tree_says, says_one_tree}
use Rattle.tree.proofs.Standing.{parent_is, above_below}
use Rattle.tree.proofs.EachStands.{root_nowhere, all_good, full_says}
use Rattle.tree.proofs.Under.{above, met, met_top, met_other, met_below}

module _ (modes : ℕ) (table : List ℕ) (whole : length table ≡ 3 * modes) (root : ℕ) (says : OneTreeSays modes table root) where
  -- A node that climbs to the root in so many steps is met through one node more.
  node_met : (steps node : ℕ) → node < modes → climb table steps node ≡ root → met modes table (suc steps) root node ≡ 1
  unfolding climb
  node_met zero node h e = rw e (met_top modes table whole root says.top 0 root ∙ same_one root root refl)
  node_met (suc steps) node h e = go (eqb node root) refl (node_met steps (above table node))
    where
      go : (b : Bool) → eqb node root ≡ b
          → (above table node < modes → climb table steps (above table node) ≡ root → met modes table (suc steps) root (above table node) ≡ 1)
          → met modes table (suc (suc steps)) root node ≡ 1
      go true q on = rw (eqb-true node root q) (met_top modes table whole root says.top (suc steps) root ∙ same_one root root refl)
      go false q on =
          let other = eqb-false node root q in
          let once = says.node_once node h other in
          let up = on (above_below modes table node whole (omega arith)) (rw (parent_is node table (omega arith)) at e) in
          omega (arith, met_below modes table whole node once h (suc steps) root, same_none root node (λ r. other (sym r)))

  other_met : (code : ℕ) → modes ≤ code → occurrences code table ≡ 1 → met modes table (suc modes) root code ≡ 1
  other_met code high once =
      let up = above_below modes table code whole (omega arith) in
      omega (
        arith,
        met_other modes table whole code once high (suc modes) root,
        node_met modes (above table code) up (says.reached (above table code) up),
        same_none root code (λ e. absurd (omega (arith, says.inside))),
      )

  -- Any code below 3n, and the absent one, is met once.
  all_met : (code : ℕ) → (modes ≤ code → occurrences code table ≡ 1) → met modes table (suc modes) root code ≡ 1
  all_met code once = go (ltb code modes) refl
    where
      go : (b : Bool) → ltb code modes ≡ b → met modes table (suc modes) root code ≡ 1
      go true q = let h = ltb-true code modes q in node_met modes code h (says.reached code h)
      go false q = let h = ltb-false code modes q in other_met code h (once h)

-- The pairs that lead are all of them.
pairs_say : (modes : ℕ) (table : List ℕ) → modes ≤ pairs_right modes table → (k : ℕ) → k < modes → (node : ℕ) × PairUnder modes table k node
unfolding pairs_right pair_right pair_under nodes
pairs_say modes table right k h =
    let found = some_within (pair_under modes table k) 0 modes
    (rw (listed_at (λ node. node) 0 modes k 0 h, zero-add) at (leads (pair_right modes table) (nodes modes) k 0 (omega arith))) in
    let node = found.0 in
    let both = (and-eq-true_iff (eqb (chain_end modes table modes (child table node 0)) (modes + 2 * k)) _).0 found.2 in
    (node, record { inside = omega (arith, found.1); even = eqb-true _ _ both.0; odd = eqb-true _ _ both.1 })

module _ (most modes : ℕ) (table : List ℕ) (accepted : tree_checked most modes table ≡ Ok tt) where
  pub accepted_says : OneTreeSays modes table (root_of modes table)
  accepted_says =
      let parts = accepted_parts most modes table accepted in
      one_tree_says modes table parts.whole parts.some parts.one

  pub accepted_tree : IsTree modes table (root_of modes table)
  unfolding met
  accepted_tree =
      let parts = accepted_parts most modes table accepted in
      let says = accepted_says in
      record {
        inside = says.inside;
        each_once = λ code h. all_met modes table parts.whole (root_of modes table) says code (λ high. says.leaf_once code high h);
        absent_once = all_met modes table parts.whole (root_of modes table) says absent (λ high. says.absent_once);
        pairs = pairs_say modes table parts.right;
      }

  -- There is one root: no other node stands nowhere in the table.
  pub one_root : (node : ℕ) → node < modes → occurrences node table ≡ 0 → node ≡ root_of modes table
  one_root node h never = go (eqb node (root_of modes table)) refl
    where
      go : (b : Bool) → eqb node (root_of modes table) ≡ b → node ≡ root_of modes table
      go true q = eqb-true node (root_of modes table) q
      go false q = absurd (omega (arith, accepted_says.node_once node h (eqb-false node (root_of modes table) q)))

-- Pairs that all are right lead to the end.
pub pairs_lead : (modes : ℕ) (table : List ℕ) → ((k : ℕ) → k < modes → (node : ℕ) × PairUnder modes table k node) → pairs_right modes table ≡ modes
unfolding pairs_right pair_right pair_under nodes
pairs_lead modes table pairs =
    leading_from (pair_right modes table) 0 modes
    (λ k low high.
    let found = pairs k (omega arith) in
    let pair = found.1 in
    some_from (pair_under modes table k) 0 modes found.0 (omega arith) (omega (arith, pair.inside))
    (rw (eq-eqb _ _ pair.even, eq-eqb _ _ pair.odd)))

-- Conversely such a table of 3n codes is accepted, whatever root it is a tree with; the absent code is none of the others.
pub accepted_is_tree : AcceptedIsTree
accepted_is_tree most modes table accepted = accepted_tree most modes table accepted

pub tree_accepted : TreeIsAccepted
unfolding met
tree_accepted most modes table root few fits whole tree =
    let says = full_says modes table whole fits root tree.inside tree.each_once tree.absent_once in
    parts_accepted most modes table
    (record {
      some = omega (arith, tree.inside);
      few = few;
      whole = whole;
      good = all_good modes table whole fits root tree.inside tree.each_once tree.absent_once;
      one = says_one_tree modes table root says;
      right = omega (arith, pairs_lead modes table tree.pairs);
    })

-- A table is a tree with one root only.
pub only_root : (modes : ℕ) (table : List ℕ) (root : ℕ) → 3 * modes ≤ absent → length table ≡ 3 * modes → IsTree modes table root
    → root ≡ root_of modes table
unfolding met
only_root modes table root fits whole tree =
    one_root modes modes table (tree_accepted modes modes table root (omega arith) fits whole tree) root tree.inside
    (root_nowhere modes table whole fits root tree.inside tree.each_once tree.absent_once)
