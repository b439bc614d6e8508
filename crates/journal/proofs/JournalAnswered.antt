-- A refusal's answer leaves everything as it was, and a call answers what its part of the meaning says.
use Rattle.std.specs.Prelude.{Err, Ok, Result}
use Rattle.journal.specs.declared.resuming.Numbers.{Numbers}
use mathlib.Core.Path.{◌≡◌, ap, sym}
use mathlib.Core.List.{List}
use Prim.Native.Nat.{ℕ}
use Rattle.refusal.specs.declared.Refusal.{Refusal}
use Rattle.entities.specs.declared.Triple.{Triple}
use Rattle.terms.specs.Job.{Job}
use Rattle.obeying.specs.Obeying.{Obeyed}
use Rattle.journal.specs.Resuming.{Outcome, done, refuses, ending, with_journal}
use Rattle.obeying.specs.code.Obeys.{came_to}
use Rattle.journal.specs.Promises.{numbers_of, returned, Lent, lent_then, Answers}

module _ (meant : Lent → Outcome) (before : Lent) where
  pub answers : (after : Lent) (r : Result Numbers Refusal) → r ≡ returned (meant before) → after ≡ lent_then (meant before) before → Answers meant before after r
  answers after r e l = record { answer = e; numbers = ap numbers_of e; leaves = l }

  pub nothing_altered : (refusal : Refusal) → meant before ≡ refuses refusal → Answers meant before before (Err refusal)
  unfolding returned lent_then
  nothing_altered refusal e = answers before (Err refusal) (rw e) (rw e)

  pub answers_so : (same : Lent → Outcome) (after : Lent) (r : Result Numbers Refusal) → meant before ≡ same before
      → Answers same before after r → Answers meant before after r
  answers_so same after r e told = answers after r (rw e told.answer) (rw e told.leaves)

module _ (job : Job) (bytes : List ℕ) (answer : Obeyed) where
  pub journal_refused : (why : Refusal) (made : List Triple) → came_to (Err why) made ≡ answer → with_journal job bytes answer ≡ refuses why
  unfolding came_to with_journal
  journal_refused why made comes = rw (sym comes)

  pub journal_obeyed : (made : List Triple) → came_to (Ok tt) made ≡ answer → with_journal job bytes answer ≡ done (ending job bytes made)
  unfolding came_to with_journal
  journal_obeyed made comes = rw (sym comes)
