-- Two results that the promise of assigning from C allows are equal, and so is every byte that they leave.
use mathlib.Core.Path.{◌≡◌, sym, ◌∙◌}
use Prim.Native.Nat.{ℕ}
use Rattle.topphatt.specs.Answer.{Outcome}
use Rattle.assign_call.specs.Calls.{LentTable}
use Rattle.assign_call.specs.Promises.{AssignCalled}

pub one_assign_result : (meant : LentTable → Outcome) (before one_after other_After : LentTable) (r s : ℕ)
    → AssignCalled meant before one_after r → AssignCalled meant before other_After s → (r ≡ s) × (one_after ≡ other_After)
one_assign_result meant before one_after other_After r s one other =
    (one.result ∙ sym other.result, one.leaves ∙ sym other.leaves)
