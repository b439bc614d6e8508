-- Merges by hand that were obeyed, as the code comes to them: their journal, or the refusal.
use Rattle.std.specs.Prelude.{Err, Ok}
use mathlib.Core.Path.{◌≡◌, sym, ◌∙◌, ap}
use mathlib.Core.List.{List}
use Prim.Native.Nat.{ℕ, ◌≤◌}
use native.Mathlib.Omega.{arith}
use borrow.Author.Tests.{eq-eqb, ne_eqb}
use lib.ListN.{length}
use Rattle.lists.specs.Written.{written_at}
use Rattle.refusal.specs.declared.Refusal.{Refusal}
use Rattle.refusal.specs.declared.Refusal.TheVariants.{LineForm}
use Rattle.entities.specs.declared.Triple.{Triple}
use Rattle.fields.specs.Lines.{kept_of}
use Rattle.terms.specs.Job.{Job}
use Rattle.merging.specs.declared.run.Run.{Run}
use Rattle.merging.specs.code.State.{history_of}
use Rattle.merging.specs.code.Runs.{Holds}
use Rattle.merging.proofs.Runs.{merges_within, merges_lawful}
use Rattle.obeying.specs.Obeying.{line_after, Obeyed, went}
use Rattle.obeying.specs.code.Obeys.{came_to}
use Rattle.journal.specs.Writing.{journal_text}
use Rattle.journal.specs.code.NewLines.{noted_behind, TextFits}
use Rattle.journal.proofs.JournalRoom.{journal_fits}
use Rattle.journal.proofs.JournalText.{journal_noted}
use Rattle.text.specs.code.Printing.{Puts}
use Rattle.steering.specs.Steering.{writes, refuses, steered_as}

module _ (job : Job) (merges : List ℕ) where
  module _ (history : List Triple) where
    pub unended : (length (kept_of merges) ≡ length merges → ⊥) → steered_as job merges (went history) ≡ refuses (LineForm (line_after history))
    unfolding steered_as
    unended more = rw (ne_eqb _ _ more)

    pub ended : length (kept_of merges) ≡ length merges → steered_as job merges (went history) ≡ writes (journal_text job history)
    unfolding steered_as
    ended all = rw (eq-eqb _ _ all)

  module _ (answer : Obeyed) where
    pub refused_steered : (why : Refusal) (made : List Triple) → came_to (Err why) made ≡ answer → steered_as job merges answer ≡ refuses why
    unfolding came_to steered_as
    refused_steered why made comes = rw (sym comes)

    pub fine_steered : (made : List Triple) → came_to (Ok tt) made ≡ answer → steered_as job merges answer ≡ steered_as job merges (went made)
    unfolding came_to
    fine_steered made comes = rw (sym comes)

-- A run's journal fits where the longest does, and is what is written.
module _ (job : Job) (own : List ℕ) (run : Run) (holds : Holds job own run) where
  journal_short : length (journal_text job (history_of run)) ≤ 5392
  journal_short =
      omega (
        arith,
        holds.few,
        journal_fits job (omega (arith, holds.few)) (omega (arith, holds.light)) (history_of run) (merges_lawful job own run holds)
            (merges_within job own run holds),
      )

  pub text_fits : (room : ℕ) → 5392 ≤ room → TextFits job own run 0 0 room
  text_fits room enough =
      record {
        holds = holds;
        begun = omega arith;
        fits = rw (journal_noted job (history_of run)) (omega (arith, journal_short));
      }

  pub journal_puts : (before after : List ℕ) (r : ℕ) → 5392 ≤ length before → r ≡ length (noted_behind job 0 (history_of run) 0)
      → after ≡ written_at 0 (noted_behind job 0 (history_of run) 0) before → Puts (journal_text job (history_of run)) before after r
  journal_puts before after r enough count written =
      record {
        count = count ∙ ap length (journal_noted job (history_of run));
        fits = omega (arith, journal_short);
        bytes = written ∙ ap (λ l. written_at 0 l before) (journal_noted job (history_of run));
      }
