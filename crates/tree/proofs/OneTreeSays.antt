-- What the test of one tree says of each code, and that it passes where all of that holds.
use mathlib.Core.Path.{◌≡◌, refl, ap, ◌∙◌, sym}
use mathlib.Core.Bool.{Bool, true, false, cond, and-eq-true_iff}
use mathlib.Core.List.{List}
use Prim.Native.Nat.{ℕ, zero, suc, ◌*◌, ◌/◌, ◌<◌, ◌≤◌}
use native.Mathlib.Omega.{arith}
use borrow.Author.Tests.{eq-eqb, ne_eqb, eqb-true, eqb-false, ltb-true}
use lib.Dec.{eqb, ltb}
use lib.ListN.{length}
use Rattle.lists.specs.Counting.{occurrences}
use Rattle.lists.specs.Members.{every}
use Rattle.lists.proofs.Ranges.{every_within, every_from}
use Rattle.entities.specs.Codes.{absent}
use Rattle.tree.specs.Table.{nodes, place_of_code, parent_of, climb}
use Rattle.tree.specs.OneTree.{root_of, leaves_once, absent_once, nodes_once, all_reached, one_tree}
use Rattle.tree.proofs.OneTreeParts.{one_tree_by}

pub record OneTreeSays (modes : ℕ) (table : List ℕ) (root : ℕ) : Type 0 where
  pub inside : root < modes
  pub top : occurrences root table ≡ 0
  pub node_once : (node : ℕ) → node < modes → (node ≡ root → ⊥) → occurrences node table ≡ 1
  pub leaf_once : (code : ℕ) → modes ≤ code → code < 3 * modes → occurrences code table ≡ 1
  pub absent_once : occurrences absent table ≡ 1
  pub reached : (node : ℕ) → node < modes → climb table modes node ≡ root

module _ (modes : ℕ) (table : List ℕ) where
  module _ (whole : length table ≡ 3 * modes) where
    pub parent_below : (node : ℕ) → node < modes → parent_of table node < modes
    unfolding parent_of
    parent_below node h = go (ltb (place_of_code table node) (length table)) refl
      where
        go : (b : Bool) → ltb (place_of_code table node) (length table) ≡ b → cond b (place_of_code table node / 3) node < modes
        go true q = omega (arith, ltb-true (place_of_code table node) (length table) q)
        go false q = h

    climb_below : (steps node : ℕ) → node < modes → climb table steps node < modes
    unfolding climb
    climb_below zero node h = h
    climb_below (suc steps) node h = climb_below steps (parent_of table node) (parent_below node h)

    pub one_tree_says : 1 ≤ modes → one_tree modes table ≡ true → OneTreeSays modes table (root_of modes table)
    unfolding one_tree leaves_once absent_once nodes_once all_reached root_of nodes
    one_tree_says some e =
        let root = root_of modes table in
        let p = (and-eq-true_iff (leaves_once modes table) _).0 e in
        let q = (and-eq-true_iff (absent_once table) _).0 p.1 in
        let r = (and-eq-true_iff (nodes_once modes table) (all_reached modes table)).0 q.1 in
        let inside = climb_below modes 0 (omega arith) in
        let times : (node : ℕ) → node < modes → occurrences node table ≡ cond (eqb node root) 0 1 =
        λ node h. eqb-true _ _ (every_within _ 0 modes node r.0 (omega arith) (omega arith)) in
        record {
          inside = inside;
          top = times root inside ∙ ap (λ b. cond b 0 1) (eq-eqb root root refl);
          node_once = λ node h other. times node h ∙ ap (λ b. cond b 0 1) (ne_eqb node root other);
          leaf_once = λ code low high. eqb-true _ _ (every_within _ modes (2 * modes) code p.0 low (omega arith));
          absent_once = eqb-true (occurrences absent table) 1 q.0;
          reached = λ node h. eqb-true _ _ (every_within _ 0 modes node r.1 (omega arith) (omega arith));
        }

  module _ (root : ℕ) (says : OneTreeSays modes table root) where
    leaves_pass : leaves_once modes table ≡ true
    unfolding leaves_once
    leaves_pass = every_from _ modes (2 * modes) (λ code low high. eq-eqb _ _ (says.leaf_once code low (omega arith)))

    node_times : (node : ℕ) → node < modes → occurrences node table ≡ cond (eqb node root) 0 1
    node_times node h = go (eqb node root) refl
      where
        go : (b : Bool) → eqb node root ≡ b → occurrences node table ≡ cond b 0 1
        go true q = ap (λ n. occurrences n table) (eqb-true node root q) ∙ says.top
        go false q = says.node_once node h (eqb-false node root q)

    nodes_pass : every (λ node. eqb (occurrences node table) (cond (eqb node root) 0 1)) (nodes modes) ≡ true
    unfolding nodes
    nodes_pass = every_from _ 0 modes (λ node low high. eq-eqb _ _ (node_times node (omega arith)))

    reached_pass : every (λ node. eqb (climb table modes node) root) (nodes modes) ≡ true
    unfolding nodes
    reached_pass = every_from _ 0 modes (λ node low high. eq-eqb _ _ (says.reached node (omega arith)))

    pub says_one_tree : one_tree modes table ≡ true
    says_one_tree =
        let start : 0 < modes = omega (arith, says.inside) in
        rw (one_tree_by modes table root (sym (says.reached 0 start)), leaves_pass, eq-eqb (occurrences absent table) 1 says.absent_once, nodes_pass, reached_pass)
