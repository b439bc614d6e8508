-- Two answers that the promise of a call allows are equal, and so is every element that they leave.
use Rattle.std.specs.Prelude.{Result}
use Rattle.journal.specs.declared.resuming.Numbers.{Numbers}
use Rattle.refusal.specs.declared.Refusal.{Refusal}
use mathlib.Core.Path.{◌≡◌, sym, ◌∙◌}
use Rattle.journal.specs.Resuming.{Outcome}
use Rattle.journal.specs.Promises.{Lent, Answers}

pub one_answer : (meant : Lent → Outcome) (before one_after other_After : Lent) (r s : Result Numbers Refusal)
    → Answers meant before one_after r → Answers meant before other_After s → (r ≡ s) × (one_after ≡ other_After)
one_answer meant before one_after other_After r s one other =
    (one.answer ∙ sym other.answer, one.leaves ∙ sym other.leaves)
