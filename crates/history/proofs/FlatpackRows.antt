-- The flatpack has a row of four for each node, and among its children each entity but the root once: the absent one too.
use mathlib.Core.Path.{◌≡◌, refl, ap, ◌∙◌}
use mathlib.Core.List.{List, [], ◌∷◌, flat_map}
use Prim.Native.Nat.{ℕ, ◌+◌, ◌*◌, ◌<◌, ◌≤◌}
use native.Mathlib.Nat.{add-zero}
use native.Mathlib.Omega.{arith}
use lib.ListN.{length}
use Rattle.lists.specs.Counting.{sum, same, occurrences}
use Rattle.lists.proofs.Totals.{total, total_same}
use Rattle.lists.proofs.Sums.{sum_of, occurrences_flatMap, same_none, total_once}
use Rattle.entities.specs.declared.Triple.{Triple}
use Rattle.entities.specs.Codes.{absent, child_code}
use Rattle.entities.proofs.ChildCodes.{code_absent, same_code}
use Rattle.history.specs.History.{merge_of, next_parent}
use Rattle.history.specs.Lawful.{LawfulHistory}
use Rattle.history.specs.Flatpack.{children, rows_for, flatpack}
use Rattle.history.proofs.OpenSums.{open_sum, parent_after, open_start, open_step, root_sum}
use Rattle.history.proofs.AbsentLeaf.{absent_leaf_last}
use Rattle.history.proofs.Amounts.{newest_merge, older_merge, node}
use Rattle.history.proofs.Walk.{labels_of, walk_sum, walk_length}

-- The weight of a triple's three.
abbrev three : (ℕ → ℕ) → Triple → ℕ
three weight triple = weight triple.x + weight triple.y + weight triple.z

-- What is no longer open was merged, once.
merged_all : (modes : ℕ) (history : List Triple) → LawfulHistory modes history → (weight : ℕ → ℕ)
    → open_sum modes history weight + sum_of (three weight) history ≡ total weight (next_parent modes history)
unfolding sum total next_parent
merged_all modes [] lawful weight = rw (add-zero (2 * modes + 1), open_start modes weight) (omega arith)
merged_all modes (merge ∷ history) lawful weight =
    let step = open_step modes history merge lawful.0 weight in
    let before = merged_all modes history lawful.1 weight in
    rw (parent_after modes merge history) (omega arith)

-- The merges by their labels.
merges_total : (weight : ℕ → ℕ) (history : List Triple)
    → total (λ label. three weight (merge_of history label)) (length history) ≡ sum_of (three weight) history
unfolding sum total
merges_total weight [] = refl
merges_total weight (merge ∷ history) =
    let newest = ap (three weight) (newest_merge merge history (length history) refl) in
    let older =
    total_same (λ label. three weight (merge_of (merge ∷ history) label)) (λ label. three weight (merge_of history label)) (length history)
    (λ label h. ap (three weight) (older_merge merge history label h)) in
    let rest = merges_total weight history in
    omega arith

pub length_rows : (modes : ℕ) (history : List Triple) (labels : List ℕ) → length (rows_for modes history labels) ≡ 4 * length labels
unfolding rows_for flat_map children
length_rows modes history [] = refl
length_rows modes history (label ∷ labels) = let rest = length_rows modes history labels in omega arith

module _ (modes : ℕ) (history : List Triple) (lawful : LawfulHistory modes history) (all : length history ≡ modes)
    (some_modes : 1 ≤ modes) (small : 3 * modes ≤ 65535) where
  pub length_flatpack : length (flatpack modes history) ≡ 4 * modes
  unfolding flatpack
  length_flatpack = length_rows modes history (labels_of modes history) ∙ ap (λ n. 4 * n) (walk_length modes history lawful all some_modes small)

  -- An entity's code stands among a node's children where the entity is one of its three.
  code_in_row : (entity : ℕ) → entity < 2 * modes + 1 + modes → (label : ℕ) → label < modes
      → occurrences (child_code modes (2 * modes) entity) (children modes history label) ≡ three (λ child. same child entity) (merge_of history label)
  unfolding children occurrences
  code_in_row entity within label h =
      let n = node modes history lawful label (omega arith) in
      let triple = merge_of history label in
      let coded : (child : ℕ) → child < 2 * modes + 1 + label → same (child_code modes (2 * modes) child) (child_code modes (2 * modes) entity) ≡ same child entity =
      λ child l. same_code modes small child entity (omega arith) within in
      rw (absent_leaf_last modes history lawful all some_modes, coded triple.x n.x_before, coded triple.y n.y_before, coded triple.z n.z_before)
      (omega arith)

  pub child_once : (entity : ℕ) → entity < 3 * modes
      → occurrences (child_code modes (2 * modes) entity) (flat_map (children modes history) (labels_of modes history)) ≡ 1
  unfolding next_parent
  child_once entity h =
      let weight : ℕ → ℕ = λ child. same child entity in
      let counted = occurrences_flatMap (child_code modes (2 * modes) entity) (children modes history) (labels_of modes history) in
      let by_label = walk_sum modes history lawful all some_modes small (λ label. occurrences (child_code modes (2 * modes) entity) (children modes history label)) in
      let by_merge =
      total_same (λ label. occurrences (child_code modes (2 * modes) entity) (children modes history label)) (λ label. three weight (merge_of history label)) modes
      (code_in_row entity (omega arith)) in
      let merges = rw all at (merges_total weight history) in
      let everything = rw all at (merged_all modes history lawful weight) in
      let root = root_sum modes history lawful all some_modes weight ∙ same_none (3 * modes) entity (λ e. omega arith) in
      let once = total_once (2 * modes + 1 + modes) entity (omega arith) in
      omega arith

  pub absent_once : occurrences absent (flat_map (children modes history) (labels_of modes history)) ≡ 1
  absent_once = rw (code_absent modes) at (child_once (2 * modes) (omega arith))
