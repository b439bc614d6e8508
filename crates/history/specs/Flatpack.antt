-- "Rows are (label, X, Y, Z), label = step, breadth first from the root, children queued X, Y, Z."
use mathlib.Core.List.{List, [], ◌∷◌, ◌++◌, flat_map}
use Rattle.std.specs.Prelude.{ℕ, zero, suc, ◌+◌, ◌-◌, ◌*◌, ltb, length}
use Rattle.lists.specs.Members.{keep}
use Rattle.entities.specs.declared.Triple.{Triple}
use Rattle.entities.specs.Codes.{child_code}
use Rattle.history.specs.History.{merge_of, z_end}

-- "After n steps the last parent is the root. The absent child replaces the end of its z-chain."
unfoldable pub absent_leaf : ℕ → List Triple → ℕ
absent_leaf modes history = z_end modes history (2 * modes + length history)

-- The codes of a node's children, X, Y, Z.
unfoldable pub children : ℕ → List Triple → ℕ → List ℕ
children modes history label =
    child_code modes (absent_leaf modes history) (merge_of history label).x
    ∷ (child_code modes (absent_leaf modes history) (merge_of history label).y
    ∷ (child_code modes (absent_leaf modes history) (merge_of history label).z ∷ []))

-- The labels of the rows: a node, then its node children queued behind the rest.
unfoldable pub walk : ℕ → List Triple → ℕ → List ℕ → List ℕ
walk modes history zero queue = []
walk modes history (suc count) [] = []
walk modes history (suc count) (label ∷ queue) =
    label ∷ walk modes history count (queue ++ keep (λ child. ltb child modes) (children modes history label))

-- The numbers of these nodes' rows.
unfoldable pub rows_for : ℕ → List Triple → List ℕ → List ℕ
rows_for modes history labels = flat_map (λ label. label ∷ children modes history label) labels

-- The flatpack of a finished history.
unfoldable pub flatpack : ℕ → List Triple → List ℕ
flatpack modes history = rows_for modes history (walk modes history modes ((modes - 1) ∷ []))
