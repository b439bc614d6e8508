-- In an accepted tree each node has one pair: the z-chains from its X and Y children end in leaves 2k and 2k+1 for some k.
-- For each k there is such a node, no two k have the same, and there are as many nodes as pairs.
use Rattle.std.specs.Prelude.{Ok}
use mathlib.Core.Path.{◌≡◌, refl, ap, ◌∙◌, sym}
use mathlib.Core.Bool.{Bool, true, false, ◌||◌}
use mathlib.Core.List.{List}
use Prim.Native.Nat.{ℕ, ◌+◌, ◌*◌, ◌/◌, ◌<◌, ◌≤◌}
use native.Mathlib.Omega.{arith}
use borrow.Author.Tests.{eqb-true, ltb-true, ltb-false}
use lib.Dec.{eqb, ltb}
use Rattle.lists.proofs.Onto.{onto}
use Rattle.entities.specs.Codes.{absent}
use Rattle.tree.specs.Table.{child, place_of_code}
use Rattle.tree.specs.OneTree.{root_of}
use Rattle.tree.specs.Pairs.{chain_end}
use Rattle.tree.specs.Check.{tree_checked}
use Rattle.tree.specs.Accepted.{PairUnder}
use Rattle.tree.proofs.AcceptedParts.{accepted_parts}
use Rattle.tree.proofs.TableSteps.{code_good, chain_rests}
use Rattle.tree.proofs.AcceptedTree.{accepted_says, accepted_tree}
use Rattle.tree.proofs.AbsentEnds.{chain_top, child_place, child_begins, end_to_top}

-- The node of pair k: that under whose X the way back from leaf 2k arrives.
unfoldable pub host : ℕ → List ℕ → ℕ → ℕ
host modes table k = place_of_code table (chain_top table modes (modes + 2 * k)) / 3

module _ (most modes : ℕ) (table : List ℕ) (accepted : tree_checked most modes table ≡ Ok tt) where
  host_is : (k node : ℕ) → PairUnder modes table k node → host modes table k ≡ node
  unfolding host
  host_is k node pair =
      let parts = accepted_parts most modes table accepted in
      let says = accepted_says most modes table accepted in
      let top : chain_top table modes (modes + 2 * k) ≡ child table node 0 =
      ap (chain_top table modes) (sym pair.even)
      ∙ end_to_top modes table parts.whole parts.good (root_of modes table) says (child table node 0)
      (child_begins modes table parts.whole parts.good (root_of modes table) says node 0 pair.inside (omega arith)) modes in
      let place = child_place modes table parts.whole parts.good (root_of modes table) says node 0 pair.inside (omega arith) in
      rw top (omega arith)

  pub host_pair : (k : ℕ) → k < modes → PairUnder modes table k (host modes table k)
  host_pair k h =
      let found = (accepted_tree most modes table accepted).pairs k h in
      rw (host_is k found.0 found.1) found.1

  pub one_pair : (j k node : ℕ) → PairUnder modes table j node → PairUnder modes table k node → j ≡ k
  one_pair j k node p q = omega (arith, p.even, q.even)

  pub each_hosts : (node : ℕ) → node < modes → (k : ℕ) × (k < modes) × PairUnder modes table k node
  each_hosts node h =
      let found = onto (host modes table) modes (λ k l. (host_pair k l).inside)
      (λ j k a b e. one_pair j k (host modes table k) (rw e at (host_pair j a)) (host_pair k b)) node h in
      (found.0, found.1, rw found.2 at (host_pair found.0 found.1))

  -- Each child is a node, a leaf or the absent one; under X and Y it isn't the absent one.
  pub child_known : (node edge : ℕ) → node < modes → edge < 3 → (ltb (child table node edge) (3 * modes) || eqb (child table node edge) absent) ≡ true
  unfolding child
  child_known node edge h k =
      let parts = accepted_parts most modes table accepted in
      code_good modes table parts.good (3 * node + edge) (omega (arith, parts.whole))

  pub child_stands : (node edge : ℕ) → node < modes → edge < 3 → place_of_code table (child table node edge) ≡ 3 * node + edge
  child_stands node edge h k =
      let parts = accepted_parts most modes table accepted in
      child_place modes table parts.whole parts.good (root_of modes table) (accepted_says most modes table accepted) node edge h k

  -- No two places have the same child.
  pub child_apart : (node edge other far : ℕ) → node < modes → edge < 3 → other < modes → far < 3 → child table node edge ≡ child table other far
      → 3 * node + edge ≡ 3 * other + far
  child_apart node edge other far h k l m e =
      sym (child_stands node edge h k) ∙ ap (place_of_code table) e ∙ child_stands other far l m

  module _ (fits : 3 * modes ≤ absent) where
    ends_low : (code end : ℕ) → chain_end modes table modes code ≡ end → end < 3 * modes → (ltb code (3 * modes) || eqb code absent) ≡ true → code < 3 * modes
    ends_low code end e low known = go (ltb code (3 * modes)) refl
      where
        go : (b : Bool) → ltb code (3 * modes) ≡ b → code < 3 * modes
        go true q = ltb-true code (3 * modes) q
        go false q =
            let high = ltb-false code (3 * modes) q in
            absurd (omega (arith, eqb-true code absent (rw q at known), chain_rests modes table modes code (omega arith)))

    pub pair_children : (k node : ℕ) → k < modes → PairUnder modes table k node → (child table node 0 < 3 * modes) × (child table node 1 < 3 * modes)
    pair_children k node h pair = (
      ends_low (child table node 0) _ pair.even (omega arith) (child_known node 0 pair.inside (omega arith)),
      ends_low (child table node 1) _ pair.odd (omega arith) (child_known node 1 pair.inside (omega arith)),
    )
