-- What is met going down the table of the merges from an entity's code is what stands under the entity; under the root is everything, once.
use mathlib.Core.Path.{◌≡◌, refl, ap, ◌∙◌, sym}
use mathlib.Core.Bool.{Bool, true, false}
use mathlib.Core.List.{List}
use Prim.Native.Nat.{ℕ, suc, ◌+◌, ◌-◌, ◌*◌, ◌<◌, ◌≤◌}
use native.Mathlib.Omega.{arith}
use borrow.Author.Tests.{ltb-true, ltb-false}
use lib.Dec.{ltb}
use Rattle.lists.specs.Counting.{same}
use Rattle.lists.proofs.Sums.{total_once}
use Rattle.entities.specs.declared.Triple.{Triple}
use Rattle.entities.specs.Parents.{parent_number}
use Rattle.entities.specs.Codes.{absent, child_code}
use Rattle.entities.proofs.ChildCodes.{code_absent, code_leaf, code_node, same_code}
use Rattle.history.specs.History.{merge_of}
use Rattle.history.proofs.Amounts.{amount, amount_leaf, amount_root, node}
use Rattle.tree.specs.Table.{child}
use Rattle.tree.proofs.Under.{met, met_leaf, met_node}
use Rattle.finished.specs.Finished.{AllMerged}
use Rattle.finished.proofs.Merged.{by_edge, Merged, going_down}

module _ (modes : ℕ) (history : List Triple) (merges : AllMerged modes history) (table : List ℕ) (merged : Merged modes history table) where
  abbrev code : ℕ → ℕ
  code entity = child_code modes (2 * modes) entity

  module _ (sought : ℕ) (known : sought < 2 * modes + 1 + modes) where
    -- How often the entity stands under another.
    abbrev stands : ℕ → ℕ
    stands entity = amount modes history (λ other. same other sought) entity

    leaf_met : (steps leaf : ℕ) → leaf ≤ 2 * modes → modes ≤ code leaf → met modes table steps (code leaf) (code sought) ≡ stands leaf
    leaf_met steps leaf h high =
        met_leaf modes table steps (code leaf) (code sought) high
        ∙ same_code modes merges.few_modes leaf sought (omega arith) known
        ∙ sym (amount_leaf modes history (λ other. same other sought) leaf h)

    -- Through so many nodes it is met under this entity's code as often.
    abbrev AllMet : ℕ → ℕ → Type 0
    AllMet steps entity = met modes table steps (code entity) (code sought) ≡ stands entity

    node_met : (steps label : ℕ) → label < modes → ((edge : ℕ) → AllMet steps (by_edge (merge_of history label) edge))
        → AllMet (suc steps) (parent_number modes label)
    unfolding by_edge
    node_met steps label l on =
        let under : (edge : ℕ) → edge < 3 → met modes table steps (child table label edge) (code sought) ≡ stands (by_edge (merge_of history label) edge) =
        λ edge k. ap (λ c. met modes table steps c (code sought)) (merged.child_is label edge (omega (arith, merges.all)) k) ∙ on edge in
        let itself = same_code modes merges.few_modes (parent_number modes label) sought (omega arith) known in
        rw (code_node modes label)
        (omega (
          arith,
          met_node modes table steps label (code sought) l,
          rw (code_node modes label) at itself,
          under 0 (omega arith),
          under 1 (omega arith),
          under 2 (omega arith),
          (node modes history merges.lawful label (omega (arith, merges.all))).under (λ other. same other sought),
        ))

    -- From the root each is met once.
    pub met_once : met modes table (suc modes) (modes - 1) (code sought) ≡ 1
    met_once =
        let root : parent_number modes (modes - 1) ≡ 3 * modes = omega (arith, merges.some_modes) in
        ap (λ c. met modes table (suc modes) c (code sought)) (sym (code_node modes (modes - 1)))
        ∙ going_down modes history merges AllMet leaf_met node_met (suc modes) (parent_number modes (modes - 1)) (omega (arith, merges.some_modes)) (omega arith)
        ∙ ap stands root
        ∙ amount_root modes history merges.lawful merges.all merges.some_modes (λ other. same other sought)
        ∙ total_once (2 * modes + 1 + modes) sought known

  -- So each code below 3n is, and the absent one.
  pub code_once : (number : ℕ) → number < 3 * modes → met modes table (suc modes) (modes - 1) number ≡ 1
  code_once number h = go (ltb number modes) refl
    where
      go : (b : Bool) → ltb number modes ≡ b → met modes table (suc modes) (modes - 1) number ≡ 1
      go true q =
          let low = ltb-true number modes q in
          rw (code_node modes number) at (met_once (parent_number modes number) (omega arith))
      go false q =
          let high = ltb-false number modes q in
          let back : number - modes + modes ≡ number = omega arith in
          rw (code_leaf modes (number - modes) (omega arith), back) at (met_once (number - modes) (omega arith))

  pub absent_once : met modes table (suc modes) (modes - 1) absent ≡ 1
  absent_once = rw (code_absent modes) at (met_once (2 * modes) (omega arith))
