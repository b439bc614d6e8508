-- A table that has a history's merges: each node's children are the codes of its merge's three, 2n being the absent leaf.
use mathlib.Core.Path.{◌≡◌, ap, ◌∙◌}
use mathlib.Core.List.{List, ◌∷◌}
use Prim.Native.Nat.{ℕ, zero, suc, ◌+◌, ◌*◌, ◌<◌, ◌≤◌}
use native.Mathlib.Omega.{arith}
use lib.ListN.{length}
use Rattle.entities.specs.declared.Triple.{Triple}
use Rattle.entities.specs.Parents.{parent_number}
use Rattle.entities.specs.Codes.{child_code}
use Rattle.entities.proofs.ChildCodes.{code_absent, code_leaf, entity_cases}
use Rattle.history.specs.Lawful.{LawfulHistory}
use Rattle.history.specs.History.{merge_of}
use Rattle.history.proofs.Amounts.{older_merge, node}
use Rattle.tree.specs.Table.{child}
use Rattle.finished.specs.Finished.{AllMerged}

-- A triple's entity under X (edge 0), Y (1) or Z (2).
unfoldable pub by_edge : Triple → ℕ → ℕ
by_edge triple zero = triple.x
by_edge triple (suc zero) = triple.y
by_edge triple (suc (suc edge)) = triple.z

pub record Merged (modes : ℕ) (history : List Triple) (table : List ℕ) : Type 0 where
  pub whole : length table ≡ 3 * modes
  pub child_is : (label edge : ℕ) → label < length history → edge < 3
      → child table label edge ≡ child_code modes (2 * modes) (by_edge (merge_of history label) edge)

-- The table has the merges before the newest too.
pub merged_before : (modes : ℕ) (merge : Triple) (history : List Triple) (table : List ℕ)
    → Merged modes (merge ∷ history) table → Merged modes history table
merged_before modes merge history table merged =
    record {
      whole = merged.whole;
      child_is = λ label edge h k.
          merged.child_is label edge (omega arith) k
          ∙ ap (λ triple. child_code modes (2 * modes) (by_edge triple edge)) (older_merge merge history label h);
    }

-- A node's children were made before it.
pub child_before : (modes : ℕ) (history : List Triple) → LawfulHistory modes history → (label edge : ℕ) → label < length history
    → by_edge (merge_of history label) edge < parent_number modes label
unfolding by_edge
child_before modes history lawful label zero h = (node modes history lawful label h).x_before
child_before modes history lawful label (suc zero) h = (node modes history lawful label h).y_before
child_before modes history lawful label (suc (suc edge)) h = (node modes history lawful label h).z_before

-- What holds of leaves, and of a node through one step more than it holds of the node's children, holds of every entity through as many steps
-- as nodes were made up to it.
module _ (modes : ℕ) (history : List Triple) (merges : AllMerged modes history) (P : ℕ → ℕ → Type 0)
    (at_leaf : (steps leaf : ℕ) → leaf ≤ 2 * modes → modes ≤ child_code modes (2 * modes) leaf → P steps leaf)
    (at_node : (steps label : ℕ) → label < modes → ((edge : ℕ) → P steps (by_edge (merge_of history label) edge))
    → P (suc steps) (parent_number modes label)) where
  abbrev Holds : ℕ → Type 0
  Holds steps = (entity : ℕ) → entity < 2 * modes + 1 + modes → entity < 2 * modes + 1 + steps → P steps entity

  by_case : (steps : ℕ) → ((label : ℕ) → label < modes → label < steps → P steps (parent_number modes label)) → Holds steps
  by_case steps node_holds =
      entity_cases modes (λ entity. entity < 2 * modes + 1 + steps → P steps entity)
      (λ k. at_leaf steps (2 * modes) (omega arith) (rw (code_absent modes) (omega (arith, merges.few_modes))))
      (λ leaf l k. at_leaf steps leaf (omega arith) (rw (code_leaf modes leaf l) (omega arith)))
      (λ label l k. node_holds label l (omega arith))

  children_hold : (steps label : ℕ) → label < modes → label ≤ steps → Holds steps → (edge : ℕ) → P steps (by_edge (merge_of history label) edge)
  children_hold steps label l within on edge =
      let before = child_before modes history merges.lawful label edge (omega (arith, merges.all)) in
      on (by_edge (merge_of history label) edge) (omega arith) (omega arith)

  pub going_down : (steps : ℕ) → Holds steps
  going_down zero = by_case zero (λ label l k. absurd (omega arith))
  going_down (suc steps) =
      by_case (suc steps) (λ label l k. at_node steps label l (children_hold steps label l (omega arith) (going_down steps)))
