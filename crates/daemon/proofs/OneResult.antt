-- Two results that the promise of a run from C allows are equal, and so is every byte that they leave.
use mathlib.Core.Path.{◌≡◌, sym, ◌∙◌}
use Prim.Native.Nat.{ℕ}
use Rattle.journal.specs.Resuming.{Outcome}
use Rattle.daemon.specs.Calls.{Lent}
use Rattle.daemon.specs.Promises.{Called}

pub one_result : (meant : Lent → Outcome) (before one_after other_After : Lent) (r s : ℕ)
    → Called meant before one_after r → Called meant before other_After s → (r ≡ s) × (one_after ≡ other_After)
one_result meant before one_after other_After r s one other = (one.result ∙ sym other.result, one.leaves ∙ sym other.leaves)
