-- "once its rows are laid in label order": the flatpack's rows, laid out, are the table of the merges.
use mathlib.Core.Path.{◌≡◌, refl, ap, ◌∙◌}
use mathlib.Core.Bool.{Bool, true, false}
use mathlib.Core.List.{List, [], ◌∷◌, flat_map}
use mathlib.Core.Logic.{⊎_elim}
use Prim.Native.Nat.{ℕ, zero, suc, ◌+◌, ◌*◌, ◌<◌, ◌≤◌}
use native.Mathlib.Omega.{arith}
use borrow.Author.Tests.{lt-ltb, ltb-true, ltb-false}
use lib.Dec.{ltb}
use lib.ListN.{length, get_or, replicate, length-replicate}
use Rattle.lists.specs.Counting.{occurrences}
use Rattle.lists.specs.Members.{every}
use Rattle.lists.proofs.Tests.{same_or_not}
use Rattle.lists.proofs.Every.{every_by_place}
use Rattle.lists.proofs.Occurring.{occurs_at}
use Rattle.lists.proofs.Sums.{same_none}
use Rattle.entities.specs.declared.Triple.{Triple}
use Rattle.entities.specs.Codes.{absent, child_code}
use Rattle.history.specs.History.{merge_of}
use Rattle.history.specs.Flatpack.{absent_leaf, children, rows_for, flatpack}
use Rattle.history.proofs.AbsentLeaf.{absent_leaf_last}
use Rattle.history.proofs.Walk.{labels_of as walked, walk_once, walk_never}
use Rattle.tree.specs.Table.{child}
use Rattle.tree.specs.Laying.{laid}
use Rattle.tree.proofs.LaidTable.{labels_of, HasAll, Has, laid_length, laid_has}
use Rattle.finished.specs.Finished.{AllMerged, tree_of}
use Rattle.finished.proofs.Merged.{by_edge, Merged}

module _ (modes : ℕ) (history : List Triple) where
  -- A node's child under an edge, as the flatpack has it.
  abbrev coded : ℕ → ℕ → ℕ
  coded label edge = child_code modes (absent_leaf modes history) (by_edge (merge_of history label) edge)

  row_labels : (labels : List ℕ) → labels_of (rows_for modes history labels) ≡ labels
  unfolding rows_for flat_map children labels_of
  row_labels [] = refl
  row_labels (label ∷ labels) = ap (λ l. label ∷ l) (row_labels labels)

  -- A table that has all rows has that of each label.
  row_of : (table labels : List ℕ) → HasAll table (rows_for modes history labels) → (label : ℕ) → 1 ≤ occurrences label labels
      → Has table label (coded label 0) (coded label 1) (coded label 2)
  unfolding rows_for flat_map children HasAll occurrences by_edge
  row_of table [] has label there = absurd (omega arith)
  row_of table (first ∷ labels) has label there =
      ⊎_elim
      (λ e. rw (← e) has.0)
      (λ other. row_of table labels has.1 label (omega (arith, same_none first label other)))
      (same_or_not first label)

-- One of three.
edge_has : (modes : ℕ) (history : List Triple) (table : List ℕ) (label : ℕ)
    → Has table label (coded modes history label 0) (coded modes history label 1) (coded modes history label 2)
    → (edge : ℕ) → edge < 3 → child table label edge ≡ coded modes history label edge
edge_has modes history table label has zero h = has.x_is
edge_has modes history table label has (suc zero) h = has.y_is
edge_has modes history table label has (suc (suc zero)) h = has.z_is
edge_has modes history table label has (suc (suc (suc edge))) h = absurd (omega arith)

module _ (modes : ℕ) (history : List Triple) (merges : AllMerged modes history) where
  abbrev labels : List ℕ
  labels = walked modes history

  once : (label : ℕ) → label < modes → occurrences label labels ≡ 1
  once = walk_once modes history merges.lawful merges.all merges.some_modes merges.few_modes

  never : (label : ℕ) → modes ≤ label → occurrences label labels ≡ 0
  never = walk_never modes history merges.lawful merges.all merges.some_modes merges.few_modes

  at_most_once : (label : ℕ) → occurrences label labels ≤ 1
  at_most_once label = go (ltb label modes) refl
    where
      go : (b : Bool) → ltb label modes ≡ b → occurrences label labels ≤ 1
      go true q = omega (arith, once label (ltb-true label modes q))
      go false q = omega (arith, never label (ltb-false label modes q))

  label_below : (place : ℕ) → place < length labels → get_or labels place 0 < modes
  label_below place h = go (get_or labels place 0) (occurs_at (get_or labels place 0) labels place 0 h refl) (ltb (get_or labels place 0) modes) refl
    where
      go : (label : ℕ) → 1 ≤ occurrences label labels → (b : Bool) → ltb label modes ≡ b → label < modes
      go label there true q = ltb-true label modes q
      go label there false q = absurd (omega (arith, never label (ltb-false label modes q)))

  labels_fit : every (λ label. ltb (3 * label + 2) (3 * modes)) labels ≡ true
  labels_fit =
      every_by_place (λ label. ltb (3 * label + 2) (3 * modes)) labels 0
      (λ place h. lt-ltb (3 * get_or labels place 0 + 2) (3 * modes) (omega (arith, label_below place h)))

  has_rows : HasAll (tree_of modes history) (flatpack modes history)
  unfolding laid flatpack
  has_rows =
      let blank : List ℕ = replicate (3 * modes) absent in
      laid_has (rows_for modes history labels) blank
      (rw (row_labels modes history labels, length-replicate (3 * modes) absent) labels_fit)
      (λ label. rw (row_labels modes history labels) (at_most_once label))

  pub laid_merged : Merged modes history (tree_of modes history)
  unfolding laid flatpack
  laid_merged =
      record {
        whole = laid_length (flatpack modes history) (replicate (3 * modes) absent) ∙ length-replicate (3 * modes) absent;
        child_is = λ label edge h k.
            edge_has modes history (tree_of modes history) label
            (row_of modes history (tree_of modes history) labels has_rows label
            (omega (arith, once label (omega (arith, merges.all)))))
            edge k
            ∙ ap (λ last. child_code modes last (by_edge (merge_of history label) edge))
            (absent_leaf_last modes history merges.lawful merges.all merges.some_modes);
      }
