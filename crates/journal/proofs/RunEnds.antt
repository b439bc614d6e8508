-- A run that went on to its end: what it writes, and the answer that the call then gives.
use Rattle.refusal.specs.declared.Refusal.{Refusal}
use Rattle.journal.specs.declared.resuming.Numbers.{Numbers}
use Rattle.std.specs.Prelude.{Ok, Result}
use mathlib.Core.Path.{◌≡◌, ap, ◌∙◌, sym}
use mathlib.Core.List.{List}
use Prim.Native.Nat.{ℕ, ◌+◌, ◌-◌, ◌*◌, ◌<◌, ◌≤◌}
use native.Mathlib.Omega.{arith}
use lib.ListN.{length, replicate, length-replicate}
use Rattle.lists.specs.Written.{written_at}
use Rattle.lists.proofs.Written.{written_front}
use Rattle.fields.specs.Lines.{kept_of}
use Rattle.terms.specs.Job.{Job}
use Rattle.history.specs.Run.{run_weight}
use Rattle.history.specs.Drops.{drops as drops_of}
use Rattle.history.specs.computed.Greedy.{finished, trials}
use Rattle.history.specs.Flatpack.{flatpack}
use Rattle.history.specs.Trials.{trial_total}
use Rattle.history.proofs.RunLawful.{finished_length}
use Rattle.history.proofs.TrialTotals.{trials_total}
use Rattle.merging.specs.declared.run.Run.{Run}
use Rattle.merging.specs.code.State.{history_of}
use Rattle.merging.specs.code.Runs.{Holds, Went}
use Rattle.merging.proofs.Runs.{merges_within, merges_lawful}
use Rattle.journal.specs.computed.NewText.{new_text}
use Rattle.journal.specs.Resuming.{done, ending}
use Rattle.journal.specs.Promises.{lent, Answers, returned, lent_then}
use Rattle.journal.specs.code.NewLines.{noted_behind, TextFits, Ended}
use Rattle.journal.proofs.NotedLines.{ended_text, ended_fits}
use Rattle.journal.proofs.JournalRoom.{new_fits}
use Rattle.journal.proofs.JournalAnswered.{answers}

module _ (job : Job) (work now_work : List ℕ) (run after : Run) (holds : Holds job work run)
    (gone : Went job (finished job (history_of run)) work after now_work) where
  within : length (history_of run) ≤ job.modes
  within = merges_within job work run holds

  pub at_the_end : length (history_of after) ≡ job.modes
  at_the_end = ap length gone.merges ∙ finished_length job (history_of run) (merges_lawful job work run holds) within

  new_has_room : (kept : ℕ) → 3 * job.modes < 1000 → length job.terms < 10000
      → length (new_text job kept (history_of run)) ≤ 16 + 21 * job.modes
  new_has_room kept few light =
      omega (arith, new_fits job few light kept (history_of run) (merges_lawful job work run holds) within)

  module _ (from : ℕ) (from_is : from ≡ length (history_of run)) where
    has_ended : Ended job (history_of run) from after
    has_ended =
        record {
          own = now_work;
          holds = gone.holds;
          merges = gone.merges;
          from_is = sym from_is;
          within = omega (arith, within);
        }

    pub text_fits : (kept room : ℕ) → 16 + 21 * job.modes ≤ room → TextFits job now_work after from kept room
    unfolding has_ended
    text_fits kept room fits =
        ended_fits job (history_of run) from after has_ended kept room
        (omega (arith, new_has_room kept (omega (arith, holds.few)) (omega (arith, holds.light))))

    trials_are : trial_total (job.modes - from) ≡ trials job (job.modes - length (history_of run)) (history_of run)
    trials_are =
        ap (λ steps. trial_total (job.modes - steps)) from_is
        ∙ sym (trials_total job (job.modes - length (history_of run)) (history_of run) (merges_lawful job work run holds) (omega (arith, within)))

    cleared : written_at 0 (replicate (9 * length job.terms) 0) now_work ≡ written_at 0 (replicate (9 * length job.terms) 0) work
    cleared =
        (written_front (replicate (9 * length job.terms) 0) now_work work (rw length-replicate gone.rest))

    pub ends : (weight total kept new : ℕ) (bytes rows journal drops end_work end_rows end_journal end_drops : List ℕ) → kept ≡ length (kept_of bytes)
        → weight ≡ run_weight job (history_of after)
        → end_rows ≡ written_at 0 (flatpack job.modes (history_of after)) rows
        → (new ≡ length (noted_behind job kept (history_of after) from))
        × (end_journal ≡ written_at 0 (noted_behind job kept (history_of after) from) journal)
        → end_drops ≡ written_at 0 (drops_of job (history_of after)) drops
        → end_work ≡ written_at 0 (replicate (9 * length job.terms) 0) now_work
        → total ≡ trial_total (job.modes - from)
        → Answers (λ given. done (ending job bytes (history_of run))) (lent work rows journal drops) (lent end_work end_rows end_journal end_drops)
        (Ok (record { weight = weight; trials = total; kept = kept; new = new }))
    unfolding ending returned lent_then
    ends weight total kept new bytes rows journal drops end_work end_rows end_journal end_drops kept_is weighs rows_put lines_put drops_put work_put totalled =
        let text : noted_behind job kept (history_of after) from ≡ new_text job (length (kept_of bytes)) (history_of run) =
        ended_text job (history_of run) from after has_ended kept ∙ ap (λ k. new_text job k (history_of run)) kept_is in
        answers (λ given. done (ending job bytes (history_of run))) (lent work rows journal drops) _ _
        (same_answer (weighs ∙ ap (run_weight job) gone.merges) (totalled ∙ trials_are) kept_is (lines_put.0 ∙ ap length text))
        (same_lent (work_put ∙ cleared) (rows_put ∙ ap (λ h. written_at 0 (flatpack job.modes h) rows) gone.merges)
        (lines_put.1 ∙ ap (λ l. written_at 0 l journal) text)
        (drops_put ∙ ap (λ h. written_at 0 (drops_of job h) drops) gone.merges))
      where
        same_answer : {a b c d e f g h : ℕ} → a ≡ b → c ≡ d → e ≡ f → g ≡ h
            → ◌≡◌ {A = Result Numbers Refusal} (Ok (record { weight = a; trials = c; kept = e; new = g })) (Ok (record { weight = b; trials = d; kept = f; new = h }))
        same_answer p q r s = rw (p, q, r, s)

        same_lent : {a b c d e f g h : List ℕ} → a ≡ b → c ≡ d → e ≡ f → g ≡ h → lent a c e g ≡ lent b d f h
        same_lent p q r s = rw (p, q, r, s)
