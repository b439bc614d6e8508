-- A z-chain of the table of the merges ends in the code of the entity's z-end; so each closed pair is one that the check asks for.
use mathlib.Core.Path.{◌≡◌, ap, ◌∙◌, sym}
use mathlib.Core.List.{List}
use Prim.Native.Nat.{ℕ, suc, ◌+◌, ◌*◌, ◌<◌, ◌≤◌}
use native.Mathlib.Omega.{arith}
use Rattle.entities.specs.declared.Triple.{Triple}
use Rattle.entities.specs.Parents.{parent_number}
use Rattle.entities.specs.Codes.{child_code}
use Rattle.entities.proofs.ChildCodes.{code_leaf, code_node}
use Rattle.history.specs.History.{merge_of, z_end}
use Rattle.history.proofs.ClosedPairs.{leaf_end, node_end, all_closed}
use Rattle.tree.specs.Table.{child}
use Rattle.tree.specs.Pairs.{chain_end}
use Rattle.tree.specs.Accepted.{PairUnder}
use Rattle.tree.proofs.TableSteps.{chain_goes, chain_rests}
use Rattle.finished.specs.Finished.{AllMerged}
use Rattle.finished.proofs.Merged.{by_edge, Merged, child_before, going_down}

module _ (modes : ℕ) (history : List Triple) (merges : AllMerged modes history) (table : List ℕ) (merged : Merged modes history table) where
  abbrev code : ℕ → ℕ
  code entity = child_code modes (2 * modes) entity

  abbrev EndsCoded : ℕ → ℕ → Type 0
  EndsCoded steps entity = chain_end modes table steps (code entity) ≡ code (z_end modes history entity)

  leaf_ends : (steps leaf : ℕ) → leaf ≤ 2 * modes → modes ≤ code leaf → EndsCoded steps leaf
  leaf_ends steps leaf h high = chain_rests modes table steps (code leaf) high ∙ ap code (sym (leaf_end modes history leaf h))

  node_ends : (steps label : ℕ) → label < modes → ((edge : ℕ) → EndsCoded steps (by_edge (merge_of history label) edge))
      → EndsCoded (suc steps) (parent_number modes label)
  unfolding by_edge
  node_ends steps label l on =
      ap (chain_end modes table (suc steps)) (code_node modes label)
      ∙ chain_goes modes table steps label l
      ∙ ap (chain_end modes table steps) (merged.child_is label 2 (omega (arith, merges.all)) (omega arith))
      ∙ on 2
      ∙ ap code (sym (node_end modes history merges.lawful label (omega (arith, merges.all))))

  -- The chain from a child whose z-end is this leaf.
  child_ends : (label edge leaf : ℕ) → label < modes → edge < 3 → leaf < 2 * modes → z_end modes history (by_edge (merge_of history label) edge) ≡ leaf
      → chain_end modes table modes (child table label edge) ≡ leaf + modes
  child_ends label edge leaf h k low e =
      let before = child_before modes history merges.lawful label edge (omega (arith, merges.all)) in
      ap (chain_end modes table modes) (merged.child_is label edge (omega (arith, merges.all)) k)
      ∙ going_down modes history merges EndsCoded leaf_ends node_ends modes (by_edge (merge_of history label) edge) (omega arith) (omega arith)
      ∙ ap code e
      ∙ code_leaf modes leaf low

  pub pair_merged : (k : ℕ) → k < modes → (label : ℕ) × PairUnder modes table k label
  unfolding by_edge
  pair_merged k h =
      let closed = all_closed modes history merges.lawful merges.all k h in
      let closes = closed.1 in
      let inside : closed.0 < modes = omega (arith, closes.made, merges.all) in (
        closed.0,
        record {
          inside = inside;
          even = child_ends closed.0 0 (2 * k) inside (omega arith) (omega arith) closes.even ∙ omega arith;
          odd = child_ends closed.0 1 (2 * k + 1) inside (omega arith) (omega arith) closes.odd ∙ omega arith;
        },
      )
