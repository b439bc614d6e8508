-- The walk from the root meets each node once: a sum over it is the total over all labels.
use mathlib.Core.Path.{◌≡◌, refl, ◌∙◌, sym}
use mathlib.Core.Bool.{true, cond}
use mathlib.Core.List.{List, [], ◌∷◌, ◌++◌}
use Prim.Native.Nat.{ℕ, zero, suc, ◌+◌, ◌-◌, ◌*◌, ◌<◌, ◌≤◌}
use native.Mathlib.Omega.{arith}
use borrow.Author.Tests.{lt-ltb, le-ltb, ltb-true}
use lib.Dec.{ltb}
use lib.ListN.{length}
use Rattle.lists.specs.Counting.{sum, same, occurrences}
use Rattle.lists.specs.Members.{every, keep}
use Rattle.lists.proofs.Tests.{both}
use Rattle.lists.proofs.Totals.{total, total_same, total_none, total_ones, total_parts}
use Rattle.lists.proofs.Sums.{sum_of, sum_append, sum_keep, sum_length, sum_occurrences, total_once, total_never}
use Rattle.lists.proofs.Every.{every_append, keeps_passing}
use Rattle.entities.specs.declared.Triple.{Triple}
use Rattle.entities.specs.Codes.{absent, child_code}
use Rattle.entities.proofs.ChildCodes.{code_absent, code_leaf, code_node, entity_cases}
use Rattle.history.specs.Lawful.{LawfulHistory}
use Rattle.history.specs.History.{merge_of}
use Rattle.history.specs.Flatpack.{children, walk}
use Rattle.history.proofs.AbsentLeaf.{absent_leaf_last}
use Rattle.history.proofs.Amounts.{amount, amount_leaf, amount_root, node}

-- A rule on labels as a weight of entities: a leaf weighs nothing.
unfoldable pub on_nodes : ℕ → (ℕ → ℕ) → ℕ → ℕ
on_nodes modes rule entity = cond (ltb entity (2 * modes + 1)) 0 (rule (entity - (2 * modes + 1)))

module _ (modes : ℕ) (rule : ℕ → ℕ) where
  on_leaf : (entity : ℕ) → entity ≤ 2 * modes → on_nodes modes rule entity ≡ 0
  unfolding on_nodes
  on_leaf entity h = rw (lt-ltb entity (2 * modes + 1) (omega arith))

  on_node : (label : ℕ) → on_nodes modes rule (2 * modes + 1 + label) ≡ rule label
  unfolding on_nodes
  on_node label =
      let back : 2 * modes + 1 + label - (2 * modes + 1) ≡ label = omega arith in
      rw (le-ltb (2 * modes + 1 + label) (2 * modes + 1) (omega arith), back)

  all_nodes : total (on_nodes modes rule) (2 * modes + 1 + modes) ≡ total rule modes
  all_nodes =
      let leaves = total_none (on_nodes modes rule) (2 * modes + 1) (λ k l. on_leaf k (omega arith)) in
      let nodes = total_same (λ k. on_nodes modes rule (2 * modes + 1 + k)) rule modes (λ k l. on_node k) in
      rw (total_parts (on_nodes modes rule) (2 * modes + 1) modes, leaves, nodes) (omega arith)

-- The labels of a flatpack's rows.
abbrev pub labels_of : ℕ → List Triple → List ℕ
labels_of modes history = walk modes history modes ((modes - 1) ∷ [])

module _ (modes : ℕ) (history : List Triple) (lawful : LawfulHistory modes history) (all : length history ≡ modes)
    (some_modes : 1 ≤ modes) (small : 3 * modes ≤ 65535) where
  -- The rule's values at the labels under a node.
  below : (ℕ → ℕ) → ℕ → ℕ
  below rule label = amount modes history (on_nodes modes rule) (2 * modes + 1 + label)

  leaf_amount : (rule : ℕ → ℕ) (leaf : ℕ) → leaf ≤ 2 * modes → amount modes history (on_nodes modes rule) leaf ≡ 0
  leaf_amount rule leaf h = amount_leaf modes history (on_nodes modes rule) leaf h ∙ on_leaf modes rule leaf h

  child_below : (rule : ℕ → ℕ) (entity : ℕ) → entity < 2 * modes + 1 + modes
      → cond (ltb (child_code modes (2 * modes) entity) modes) (below rule (child_code modes (2 * modes) entity)) 0
      ≡ amount modes history (on_nodes modes rule) entity
  unfolding below
  child_below rule =
      entity_cases modes
      (λ entity. cond (ltb (child_code modes (2 * modes) entity) modes) (below rule (child_code modes (2 * modes) entity)) 0
      ≡ amount modes history (on_nodes modes rule) entity)
      (rw (code_absent modes, le-ltb absent modes (omega arith), leaf_amount rule (2 * modes) (omega arith)) refl)
      (λ leaf h. rw (code_leaf modes leaf h, le-ltb (leaf + modes) modes (omega arith), leaf_amount rule leaf (omega arith)) refl)
      (λ label h. rw (code_node modes label, lt-ltb label modes h) refl)

  node_below : (rule : ℕ → ℕ) (label : ℕ) → label < modes
      → below rule label ≡ rule label + sum_of (below rule) (keep (λ child. ltb child modes) (children modes history label))
  unfolding children sum below
  node_below rule label h =
      let n = node modes history lawful label (omega arith) in
      let triple = merge_of history label in
      let child = child_below rule in
      let x = child triple.x (omega (arith, n.x_before)) in
      let y = child triple.y (omega (arith, n.y_before)) in
      let z = child triple.z (omega (arith, n.z_before)) in
      rw (sum_keep (below rule) (λ child. ltb child modes) (children modes history label), absent_leaf_last modes history lawful all some_modes)
      (rw (x, y, z, n.under (on_nodes modes rule), on_node modes rule label) (omega arith))

  -- With a turn for each node under the queue, the walk has them all.
  walk_below : (rule : ℕ → ℕ) (count : ℕ) (queue : List ℕ) → every (λ label. ltb label modes) queue ≡ true
      → sum_of (below (λ label. 1)) queue ≤ count → sum_of rule (walk modes history count queue) ≡ sum_of (below rule) queue
  unfolding walk sum every
  walk_below rule zero [] labels enough = refl
  walk_below rule zero (label ∷ queue) labels enough =
      let l = ltb-true label modes (both (ltb label modes) (every (λ label. ltb label modes) queue) labels).0 in
      let here = node_below (λ label. 1) label l in
      absurd (omega arith)
  walk_below rule (suc count) [] labels enough = refl
  walk_below rule (suc count) (label ∷ queue) labels enough =
      let kept = keep (λ child. ltb child modes) (children modes history label) in
      let parts = both (ltb label modes) (every (λ label. ltb label modes) queue) labels in
      let l = ltb-true label modes parts.0 in
      let turns = node_below (λ label. 1) label l in
      let turns_rest = sum_append (below (λ label. 1)) queue kept in
      let here = node_below rule label l in
      let rest = sum_append (below rule) queue kept in
      let onward =
      walk_below rule count (queue ++ kept)
      (every_append (λ label. ltb label modes) queue kept parts.1 (keeps_passing (λ label. ltb label modes) (children modes history label)))
      (omega arith) in
      omega arith

  root_below : (rule : ℕ → ℕ) → below rule (modes - 1) ≡ total rule modes
  unfolding below
  root_below rule =
      let root : 2 * modes + 1 + (modes - 1) ≡ 3 * modes = omega arith in
      rw root (amount_root modes history lawful all some_modes (on_nodes modes rule) ∙ all_nodes modes rule)

  -- A sum over the walk is the total over all labels.
  pub walk_sum : (rule : ℕ → ℕ) → sum_of rule (labels_of modes history) ≡ total rule modes
  unfolding sum every
  walk_sum rule =
      let turns = root_below (λ label. 1) ∙ total_ones modes in
      walk_below rule modes ((modes - 1) ∷ []) (rw (lt-ltb (modes - 1) modes (omega arith))) (omega arith)
      ∙ rw (root_below rule) (omega arith)

  pub walk_length : length (labels_of modes history) ≡ modes
  walk_length = sym (sum_length (labels_of modes history)) ∙ walk_sum (λ label. 1) ∙ total_ones modes

  pub walk_once : (label : ℕ) → label < modes → occurrences label (labels_of modes history) ≡ 1
  walk_once label h =
      sym (sum_occurrences label (labels_of modes history))
      ∙ walk_sum (λ k. same k label)
      ∙ total_once modes label h

  pub walk_never : (label : ℕ) → modes ≤ label → occurrences label (labels_of modes history) ≡ 0
  walk_never label h =
      sym (sum_occurrences label (labels_of modes history))
      ∙ walk_sum (λ k. same k label)
      ∙ total_never modes label h
