-- Two answers that the promise of `assign` allows are equal, and so is every number that they leave.
use Rattle.std.specs.Prelude.{ℕ, Result}
use Rattle.refusal.specs.declared.Refusal.{Refusal}
use mathlib.Core.Path.{◌≡◌, sym, ◌∙◌}
use Rattle.topphatt.specs.Answer.{Outcome}
use Rattle.topphatt.specs.Promises.{Lent, Assigns}

pub one_answer : (meant : Lent → Outcome) (before one other : Lent) (r s : Result ℕ Refusal) → Assigns meant before one r → Assigns meant before other s
    → (r ≡ s) × (one ≡ other)
one_answer meant before one other r s first second = (first.answer ∙ sym second.answer, first.leaves ∙ sym second.leaves)
