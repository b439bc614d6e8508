-- The height with which an accepted tree is written is enough: no node is met where none is left.
-- For one more node of height would meet that node too, and an accepted tree has no more nodes to meet.
use Rattle.std.specs.Prelude.{Ok}
use mathlib.Core.Path.{◌≡◌, refl, ◌∙◌, sym}
use mathlib.Core.Bool.{Bool, true, false, cond, ◌&&◌}
use mathlib.Core.List.{List}
use Prim.Native.Nat.{ℕ, zero, suc, ◌+◌, ◌*◌, ◌<◌, ◌≤◌}
use native.Mathlib.Omega.{arith}
use borrow.Author.Tests.{le-leb, eqb-true, eqb-false, ltb-true, ltb-false}
use lib.Dec.{eqb, ltb, leb}
use lib.ListN.{length}
use Rattle.lists.specs.Counting.{same}
use Rattle.lists.proofs.Sums.{same_one, same_none}
use Rattle.lists.proofs.Totals.{total, total_same, total_none, total_ones, total_add}
use Rattle.lists.proofs.Pigeonholes.{total_at_most, total_same_beyond, total_same_below}
use Rattle.tree.specs.Table.{child}
use Rattle.tree.specs.OneTree.{root_of}
use Rattle.tree.specs.Check.{tree_checked}
use Rattle.tree.proofs.Standing.{above_below}
use Rattle.tree.proofs.Under.{above, met, met_leaf, met_none, met_node, no_node, met_top, met_below}
use Rattle.tree.proofs.AcceptedParts.{accepted_parts}
use Rattle.tree.proofs.OneTreeSays.{OneTreeSays}
use Rattle.tree.proofs.AcceptedTree.{accepted_says, accepted_tree}

-- Going down from a code through at most so many nodes meets no further one.
unfoldable pub whole_under : ℕ → List ℕ → ℕ → ℕ → Bool
whole_under modes table zero code = leb modes code
whole_under modes table (suc nodes) code =
    cond (ltb code modes)
    (whole_under modes table nodes (child table code 0)
    && (whole_under modes table nodes (child table code 1) && whole_under modes table nodes (child table code 2)))
    true

module _ (modes : ℕ) (table : List ℕ) where
  -- How many nodes are met where no height is left.
  unfoldable cuts : ℕ → ℕ → ℕ
  cuts zero code = cond (ltb code modes) 1 0
  cuts (suc nodes) code =
      cond (ltb code modes) (cuts nodes (child table code 0) + (cuts nodes (child table code 1) + cuts nodes (child table code 2))) 0

  -- How many nodes are met before.
  unfoldable count : ℕ → ℕ → ℕ
  count nodes code = total (λ node. met modes table nodes code node) modes

  count_leaf : (nodes code : ℕ) → modes ≤ code → count nodes code ≡ 0
  unfolding count
  count_leaf nodes code h =
      total_same (λ node. met modes table nodes code node) (λ node. same code node) modes (λ node k. met_leaf modes table nodes code node h)
      ∙ total_same_beyond code modes h

  count_none : (code : ℕ) → code < modes → count 0 code ≡ 0
  unfolding count
  count_none code h = total_none (λ node. met modes table 0 code node) modes (λ node k. met_none modes table code node h)

  count_node : (nodes code : ℕ) → code < modes
      → count (suc nodes) code
      ≡ 1 + (count nodes (child table code 0) + (count nodes (child table code 1) + count nodes (child table code 2)))
  unfolding count
  count_node nodes code h =
      let x : ℕ → ℕ = λ node. met modes table nodes (child table code 0) node in
      let y : ℕ → ℕ = λ node. met modes table nodes (child table code 1) node in
      let z : ℕ → ℕ = λ node. met modes table nodes (child table code 2) node in
      total_same (λ node. met modes table (suc nodes) code node) (λ node. same code node + (x node + (y node + z node))) modes
      (λ node k. met_node modes table nodes code node h)
      ∙ total_add (λ node. same code node) (λ node. x node + (y node + z node)) modes
      ∙ rw (total_same_below code modes h, total_add x (λ node. y node + z node) modes, total_add y z modes)

  -- One more node of height meets the nodes that none was left for.
  one_more : (nodes code : ℕ) → count (suc nodes) code ≡ count nodes code + cuts nodes code
  unfolding cuts
  one_more zero code = go (ltb code modes) refl
    where
      go : (b : Bool) → ltb code modes ≡ b → count 1 code ≡ count 0 code + cond b 1 0
      go true q =
          let h = ltb-true code modes q in
          omega (arith, count_node 0 code h, count_none code h, each 0, each 1, each 2)
        where
          none_there : (next : ℕ) → count 0 next ≡ 0
          none_there next = split (ltb next modes) refl
            where
              split : (b : Bool) → ltb next modes ≡ b → count 0 next ≡ 0
              split true p = count_none next (ltb-true next modes p)
              split false p = count_leaf 0 next (ltb-false next modes p)

          each : (edge : ℕ) → count 0 (child table code edge) ≡ 0
          each edge = none_there (child table code edge)
      go false q =
          let h = ltb-false code modes q in
          omega (arith, count_leaf 1 code h, count_leaf 0 code h)
  one_more (suc nodes) code =
      go (ltb code modes) refl (one_more nodes (child table code 0)) (one_more nodes (child table code 1)) (one_more nodes (child table code 2))
    where
      go : (b : Bool) → ltb code modes ≡ b
          → count (suc nodes) (child table code 0) ≡ count nodes (child table code 0) + cuts nodes (child table code 0)
          → count (suc nodes) (child table code 1) ≡ count nodes (child table code 1) + cuts nodes (child table code 1)
          → count (suc nodes) (child table code 2) ≡ count nodes (child table code 2) + cuts nodes (child table code 2)
          → count (suc (suc nodes)) code
          ≡ count (suc nodes) code + cond b (cuts nodes (child table code 0) + (cuts nodes (child table code 1) + cuts nodes (child table code 2))) 0
      go true q x y z =
          let h = ltb-true code modes q in
          omega (arith, count_node (suc nodes) code h, count_node nodes code h)
      go false q x y z =
          let h = ltb-false code modes q in
          omega (arith, count_leaf (suc (suc nodes)) code h, count_leaf (suc nodes) code h)

  -- Where no node is met without height, all is whole.
  uncut : (nodes code : ℕ) → cuts nodes code ≡ 0 → whole_under modes table nodes code ≡ true
  unfolding cuts whole_under
  uncut zero code e = go (ltb code modes) refl e
    where
      go : (b : Bool) → ltb code modes ≡ b → ◌≡◌ {A = ℕ} (cond b 1 0) 0 → leb modes code ≡ true
      go true q f = absurd (omega arith)
      go false q f = le-leb modes code (ltb-false code modes q)
  uncut (suc nodes) code e =
      go (ltb code modes) refl (uncut nodes (child table code 0)) (uncut nodes (child table code 1)) (uncut nodes (child table code 2)) e
    where
      go : (b : Bool) → ltb code modes ≡ b
          → (cuts nodes (child table code 0) ≡ 0 → whole_under modes table nodes (child table code 0) ≡ true)
          → (cuts nodes (child table code 1) ≡ 0 → whole_under modes table nodes (child table code 1) ≡ true)
          → (cuts nodes (child table code 2) ≡ 0 → whole_under modes table nodes (child table code 2) ≡ true)
          → cond b (cuts nodes (child table code 0) + (cuts nodes (child table code 1) + cuts nodes (child table code 2))) 0 ≡ 0
          → cond b
          (whole_under modes table nodes (child table code 0)
          && (whole_under modes table nodes (child table code 1) && whole_under modes table nodes (child table code 2)))
          true
          ≡ true
      go true q x y z f = rw (x (omega arith), y (omega arith), z (omega arith))
      go false q x y z f = refl

  -- In a tree no node is met twice, however high one may go.
  module _ (whole : length table ≡ 3 * modes) (root : ℕ) (says : OneTreeSays modes table root) where
    at_most_once : (nodes node : ℕ) → node < modes → met modes table nodes root node ≤ 1
    at_most_once zero node h = omega (arith, no_node modes table root node h)
    at_most_once (suc nodes) node h = go (eqb node root) refl (at_most_once nodes (above table node))
      where
        go : (b : Bool) → eqb node root ≡ b → (above table node < modes → met modes table nodes root (above table node) ≤ 1)
            → met modes table (suc nodes) root node ≤ 1
        go true q on =
            rw (eqb-true node root q) (omega (arith, met_top modes table whole root says.top nodes root, same_one root root refl))
        go false q on =
            let other = eqb-false node root q in
            let once = says.node_once node h other in
            omega (
              arith,
              on (above_below modes table node whole (omega arith)),
              met_below modes table whole node once h nodes root,
              same_none root node (λ e. other (sym e)),
            )

    at_most_all : (nodes : ℕ) → count nodes root ≤ modes
    unfolding count
    at_most_all nodes =
        omega (
          arith,
          total_at_most (λ node. met modes table nodes root node) (λ node. 1) modes (at_most_once nodes),
          total_ones modes,
        )

pub accepted_whole : (most modes : ℕ) (table : List ℕ) → tree_checked most modes table ≡ Ok tt
    → whole_under modes table (suc modes) (root_of modes table) ≡ true
unfolding met count
accepted_whole most modes table accepted =
    let parts = accepted_parts most modes table accepted in
    let root = root_of modes table in
    let tree = accepted_tree most modes table accepted in
    let all : count modes table (suc modes) root ≡ modes =
    total_same (λ node. met modes table (suc modes) root node) (λ node. 1) modes (λ node h. tree.each_once node (omega arith))
    ∙ total_ones modes in
    uncut modes table (suc modes) root
    (omega (
      arith,
      all,
      one_more modes table (suc modes) root,
      at_most_all modes table parts.whole root (accepted_says most modes table accepted) (suc (suc modes)),
    ))
