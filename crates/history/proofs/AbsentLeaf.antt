-- The leaf 2n is paired with none, so it ends the root's z-chain.
use mathlib.Core.Path.{◌≡◌, ◌∙◌, sym}
use mathlib.Core.List.{List}
use Prim.Native.Nat.{ℕ, ◌+◌, ◌*◌, ◌≤◌}
use native.Mathlib.Omega.{arith}
use lib.ListN.{length}
use Rattle.lists.specs.Counting.{same}
use Rattle.lists.proofs.Sums.{same_one, same_none, one_same}
use Rattle.entities.specs.declared.Triple.{Triple}
use Rattle.history.specs.History.{z_end}
use Rattle.history.specs.computed.Pairs.{holder}
use Rattle.history.specs.Lawful.{LawfulHistory}
use Rattle.history.specs.Flatpack.{absent_leaf}
use Rattle.history.proofs.Holders.{one_holder, last_held}
use Rattle.history.proofs.OpenSums.{open_sum, open_single, root_sum}

-- One open entity's z-end is 2n, at any time.
pub unpaired_once : (modes : ℕ) (history : List Triple) → LawfulHistory modes history
    → open_sum modes history (λ entity. same (z_end modes history entity) (2 * modes)) ≡ 1
unpaired_once modes history lawful =
    let held = last_held modes history lawful in
    open_single modes history (λ entity. same (z_end modes history entity) (2 * modes)) (holder modes history (2 * modes)) held.is_held
    (λ entity o apart. same_none (z_end modes history entity) (2 * modes)
    (λ e. apart (one_holder modes history lawful entity (holder modes history (2 * modes)) o held.is_held (e ∙ sym held.end))))
    ∙ same_one (z_end modes history (holder modes history (2 * modes))) (2 * modes) held.end

pub absent_leaf_last : (modes : ℕ) (history : List Triple) → LawfulHistory modes history → length history ≡ modes → 1 ≤ modes
    → absent_leaf modes history ≡ 2 * modes
unfolding absent_leaf
absent_leaf_last modes history lawful all some_modes =
    let root : 2 * modes + length history ≡ 3 * modes = omega arith in
    let last = root_sum modes history lawful all some_modes (λ entity. same (z_end modes history entity) (2 * modes)) in
    let once = unpaired_once modes history lawful in
    rw root (one_same (z_end modes history (3 * modes)) (2 * modes) (omega arith))
