-- The absent child of an accepted tree ends the root's z-chain. Going up along Z edges from the end of a chain arrives where the chain began;
-- every leaf ends the chain of some X or Y child, which is not the root; and a chain of more than n nodes would repeat one.
use Rattle.std.specs.Prelude.{Ok}
use mathlib.Core.Path.{◌≡◌, refl, ap, ◌∙◌, sym}
use mathlib.Core.Bool.{Bool, true, false, cond, ◌||◌}
use mathlib.Core.List.{List, [], ◌∷◌}
use Prim.Native.Nat.{ℕ, zero, suc, ◌+◌, ◌-◌, ◌*◌, ◌/◌, ◌%◌, ◌<◌, ◌≤◌}
use native.Mathlib.Omega.{arith}
use borrow.Author.Tests.{eq-eqb, ne_eqb, lt-ltb, eqb-true, eqb-false, ltb-true, ltb-false}
use lib.Dec.{eqb, ltb}
use lib.ListN.{length, get_or}
use Rattle.lists.specs.Counting.{occurrences}
use Rattle.lists.specs.Members.{every}
use Rattle.lists.proofs.Every.{every_cons}
use Rattle.lists.proofs.Occurring.{occurs_at}
use Rattle.lists.proofs.Pigeonholes.{at_most_holes}
use Rattle.entities.specs.Codes.{absent}
use Rattle.tree.specs.Table.{child, place_of_code}
use Rattle.tree.specs.OneTree.{root_of}
use Rattle.tree.specs.Pairs.{chain_end}
use Rattle.tree.specs.Check.{codes_good, tree_checked}
use Rattle.tree.specs.Accepted.{PairUnder}
use Rattle.tree.proofs.AcceptedParts.{accepted_parts}
use Rattle.tree.proofs.OneTreeSays.{OneTreeSays}
use Rattle.tree.proofs.TableSteps.{code_good, chain_rests}
use Rattle.tree.proofs.Standing.{only_there, place_nowhere}
use Rattle.tree.proofs.Under.{met, met_node}
use Rattle.tree.proofs.AcceptedTree.{accepted_says, accepted_tree}

-- One step along a z-chain, and one step back: from a code under a Z edge to its node; any other code stays.
unfoldable pub along : ℕ → List ℕ → ℕ → ℕ
along modes table code = cond (ltb code modes) (child table code 2) code

unfoldable pub back : List ℕ → ℕ → ℕ
back table code = cond (eqb (place_of_code table code % 3) 2) (place_of_code table code / 3) code

-- So many steps back.
unfoldable pub chain_top : List ℕ → ℕ → ℕ → ℕ
chain_top table zero code = code
chain_top table (suc steps) code = chain_top table steps (back table code)

-- No step of a chain; the last step of one, and of a way back.
chain_none : (modes : ℕ) (table : List ℕ) (code : ℕ) → chain_end modes table 0 code ≡ code
unfolding chain_end
chain_none modes table code = refl

chain_last : (modes : ℕ) (table : List ℕ) (steps code : ℕ) → chain_end modes table (suc steps) code ≡ along modes table (chain_end modes table steps code)
unfolding chain_end along
chain_last modes table zero code = refl
chain_last modes table (suc steps) code = chain_last modes table steps (cond (ltb code modes) (child table code 2) code)

top_last : (table : List ℕ) (steps code : ℕ) → chain_top table (suc steps) code ≡ back table (chain_top table steps code)
unfolding chain_top
top_last table zero code = refl
top_last table (suc steps) code = top_last table steps (back table code)

-- The nodes of the z-chain from a code.
unfoldable pub chain_nodes : ℕ → List ℕ → ℕ → ℕ → List ℕ
chain_nodes modes table zero code = []
chain_nodes modes table (suc steps) code = cond (ltb code modes) (code ∷ chain_nodes modes table steps (child table code 2)) []

module _ (modes : ℕ) (table : List ℕ) where
  nodes_below : (steps code : ℕ) → every (λ v. ltb v modes) (chain_nodes modes table steps code) ≡ true
  unfolding chain_nodes every
  nodes_below zero code = refl
  nodes_below (suc steps) code = go (ltb code modes) refl (nodes_below steps (child table code 2))
    where
      go : (b : Bool) → ltb code modes ≡ b → every (λ v. ltb v modes) (chain_nodes modes table steps (child table code 2)) ≡ true
          → every (λ v. ltb v modes) (chain_nodes modes table (suc steps) code) ≡ true
      go true q on = rw q (every_cons (λ v. ltb v modes) code (chain_nodes modes table steps (child table code 2)) q on)
      go false q on = rw q

  -- Each of them is met under the code.
  nodes_met : (steps code sought : ℕ) → occurrences sought (chain_nodes modes table steps code) ≤ met modes table steps code sought
  unfolding chain_nodes occurrences
  nodes_met zero code sought = omega arith
  nodes_met (suc steps) code sought = go (ltb code modes) refl (nodes_met steps (child table code 2) sought)
    where
      go : (b : Bool) → ltb code modes ≡ b
          → occurrences sought (chain_nodes modes table steps (child table code 2)) ≤ met modes table steps (child table code 2) sought
          → occurrences sought (chain_nodes modes table (suc steps) code) ≤ met modes table (suc steps) code sought
      go true q on = rw q (omega (arith, met_node modes table steps code sought (ltb-true code modes q)))
      go false q on = rw q (omega arith)

  -- A chain that is still at a node after so many steps has passed as many.
  chain_length : (steps code : ℕ) → chain_end modes table steps code < modes → length (chain_nodes modes table (suc steps) code) ≡ suc steps
  unfolding chain_end chain_nodes
  chain_length zero code h = rw (lt-ltb code modes h)
  chain_length (suc steps) code h = go (ltb code modes) refl (chain_length steps (child table code 2))
    where
      go : (b : Bool) → ltb code modes ≡ b
          → (chain_end modes table steps (child table code 2) < modes → length (chain_nodes modes table (suc steps) (child table code 2)) ≡ suc steps)
          → length (chain_nodes modes table (suc (suc steps)) code) ≡ suc (suc steps)
      go true q on = rw q (ap suc (on (rw q at h)))
      go false q on = let out = ltb-false code modes q in absurd (omega (arith, chain_rests modes table (suc steps) code out))

module _ (modes : ℕ) (table : List ℕ) (whole : length table ≡ 3 * modes) (good : length table ≤ codes_good modes table) (root : ℕ)
    (says : OneTreeSays modes table root) where
  -- Every code of the table stands there alone.
  pub stands_once : (i : ℕ) → i < length table → occurrences (get_or table i absent) table ≡ 1
  stands_once i h =
      go (get_or table i absent) (occurs_at (get_or table i absent) table i absent h refl) (code_good modes table good i h)
      (ltb (get_or table i absent) modes) refl (ltb (get_or table i absent) (3 * modes)) refl (eqb (get_or table i absent) root) refl
    where
      go : (code : ℕ) → 1 ≤ occurrences code table → (ltb code (3 * modes) || eqb code absent) ≡ true → (n : Bool) → ltb code modes ≡ n
          → (l : Bool) → ltb code (3 * modes) ≡ l → (r : Bool) → eqb code root ≡ r → occurrences code table ≡ 1
      go code some ok n en l el true er = absurd (omega (arith, says.top, ap (λ v. occurrences v table) (eqb-true code root er)))
      go code some ok true en l el false er = says.node_once code (ltb-true code modes en) (eqb-false code root er)
      go code some ok false en true el false er = says.leaf_once code (ltb-false code modes en) (ltb-true code (3 * modes) el)
      go code some ok false en false el false er =
          ap (λ v. occurrences v table) (eqb-true code absent (rw el at ok)) ∙ says.absent_once

  pub child_place : (node edge : ℕ) → node < modes → edge < 3 → place_of_code table (child table node edge) ≡ 3 * node + edge
  unfolding child
  child_place node edge h k =
      only_there (child table node edge) absent table (stands_once (3 * node + edge) (omega arith)) (3 * node + edge) (omega arith) refl

  -- A step back undoes a step along; the root and every X and Y child begin a chain.
  back_along : (node : ℕ) → node < modes → back table (child table node 2) ≡ node
  unfolding back
  back_along node h =
      let rest : (3 * node + 2) % 3 ≡ 2 = omega arith in
      let whole_part : (3 * node + 2) / 3 ≡ node = omega arith in
      rw (child_place node 2 h (omega arith), eq-eqb ((3 * node + 2) % 3) 2 rest, whole_part)

  root_begins : back table root ≡ root
  unfolding back
  root_begins =
      let place = place_nowhere root table says.top in
      rw (ne_eqb (place_of_code table root % 3) 2 (λ e. absurd (omega arith)))

  pub child_begins : (node edge : ℕ) → node < modes → edge < 2 → back table (child table node edge) ≡ child table node edge
  unfolding back
  child_begins node edge h k =
      let place = child_place node edge h (omega arith) in
      rw (ne_eqb (place_of_code table (child table node edge) % 3) 2 (λ e. absurd (omega arith)))

  -- The way back from a chain's end arrives where the chain began.
  pub end_to_top : (start : ℕ) → back table start ≡ start → (steps : ℕ) → chain_top table steps (chain_end modes table steps start) ≡ start
  unfolding chain_top along
  end_to_top start begins zero = chain_none modes table start
  end_to_top start begins (suc steps) = go (ltb (chain_end modes table steps start) modes) refl (end_to_top start begins steps)
    where
      go : (b : Bool) → ltb (chain_end modes table steps start) modes ≡ b → chain_top table steps (chain_end modes table steps start) ≡ start
          → chain_top table (suc steps) (chain_end modes table (suc steps) start) ≡ start
      go true q on =
          rw (chain_last modes table steps start, q, back_along (chain_end modes table steps start) (ltb-true (chain_end modes table steps start) modes q)) on
      go false q on = rw (chain_last modes table steps start, q) (top_last table steps (chain_end modes table steps start) ∙ ap (back table) on ∙ begins)

  -- Every code of the root's chain is below 3n or absent.
  chain_good : (steps : ℕ) → (ltb (chain_end modes table steps root) (3 * modes) || eqb (chain_end modes table steps root) absent) ≡ true
  unfolding chain_end along child
  chain_good zero = rw (lt-ltb root (3 * modes) (omega (arith, says.inside)))
  chain_good (suc steps) = go (ltb (chain_end modes table steps root) modes) refl (chain_good steps)
    where
      go : (b : Bool) → ltb (chain_end modes table steps root) modes ≡ b
          → (ltb (chain_end modes table steps root) (3 * modes) || eqb (chain_end modes table steps root) absent) ≡ true
          → (ltb (chain_end modes table (suc steps) root) (3 * modes) || eqb (chain_end modes table (suc steps) root) absent) ≡ true
      go true q on =
          let h = ltb-true (chain_end modes table steps root) modes q in
          rw (chain_last modes table steps root, q) (code_good modes table good (3 * chain_end modes table steps root + 2) (omega arith))
      go false q on = rw (chain_last modes table steps root, q) on

  -- No X or Y child's chain ends where the root's does.
  apart : (node edge : ℕ) → node < modes → edge < 2 → chain_end modes table modes (child table node edge) ≡ chain_end modes table modes root → ⊥
  unfolding child
  apart node edge h k e =
      let same_top : child table node edge ≡ root =
      sym (end_to_top (child table node edge) (child_begins node edge h k) modes) ∙ ap (chain_top table modes) e ∙ end_to_top root root_begins modes in
      omega (arith, says.top, occurs_at root table (3 * node + edge) absent (omega arith) same_top)

module _ (most modes : ℕ) (table : List ℕ) (accepted : tree_checked most modes table ≡ Ok tt) where
  -- The root's chain ends in no node: n + 1 nodes would be met, and each is met once.
  no_node_ends : chain_end modes table modes (root_of modes table) < modes → ⊥
  unfolding met
  no_node_ends h =
      let root = root_of modes table in
      let tree = accepted_tree most modes table accepted in
      let once : (v : ℕ) → v < modes → occurrences v (chain_nodes modes table (suc modes) root) ≤ 1 =
      λ v k. omega (arith, nodes_met modes table (suc modes) root v, tree.each_once v (omega arith)) in
      omega (
        arith,
        chain_length modes table modes root h,
        at_most_holes modes (chain_nodes modes table (suc modes) root) (nodes_below modes table (suc modes) root) once,
      )

  -- Nor in a leaf: each leaf ends the chain of an X or Y child, and none of these ends where the root's does.
  no_leaf_ends : (end : ℕ) → ((node edge : ℕ) → node < modes → edge < 2 → chain_end modes table modes (child table node edge) ≡ end → ⊥)
      → modes ≤ end → end < 3 * modes → ⊥
  no_leaf_ends end begins low high =
      let pair = (accepted_tree most modes table accepted).pairs ((end - modes) / 2) (omega arith) in
      go (eqb ((end - modes) % 2) 0) refl pair.0 pair.1
    where
      go : (b : Bool) → eqb ((end - modes) % 2) 0 ≡ b → (node : ℕ) → PairUnder modes table ((end - modes) / 2) node → ⊥
      go true q node pair =
          let even = eqb-true ((end - modes) % 2) 0 q in
          let last : modes + 2 * ((end - modes) / 2) ≡ end = omega arith in
          begins node 0 pair.inside (omega arith) (pair.even ∙ last)
      go false q node pair =
          let odd = eqb-false ((end - modes) % 2) 0 q in
          let last : modes + 2 * ((end - modes) / 2) + 1 ≡ end = omega arith in
          begins node 1 pair.inside (omega arith) (pair.odd ∙ last)

  pub absent_ends : chain_end modes table modes (root_of modes table) ≡ absent
  absent_ends =
      let parts = accepted_parts most modes table accepted in
      let says = accepted_says most modes table accepted in
      go (chain_end modes table modes (root_of modes table)) no_node_ends
      (no_leaf_ends (chain_end modes table modes (root_of modes table)) (apart modes table parts.whole parts.good (root_of modes table) says))
      (chain_good modes table parts.whole parts.good (root_of modes table) says modes)
      (ltb (chain_end modes table modes (root_of modes table)) modes) refl (ltb (chain_end modes table modes (root_of modes table)) (3 * modes)) refl
    where
      go : (end : ℕ) → (end < modes → ⊥) → (modes ≤ end → end < 3 * modes → ⊥) → (ltb end (3 * modes) || eqb end absent) ≡ true
          → (n : Bool) → ltb end modes ≡ n → (l : Bool) → ltb end (3 * modes) ≡ l → end ≡ absent
      go end node leaf good true en l el = absurd (node (ltb-true end modes en))
      go end node leaf good false en true el = absurd (leaf (ltb-false end modes en) (ltb-true end (3 * modes) el))
      go end node leaf good false en false el = eqb-true end absent (rw el at good)
