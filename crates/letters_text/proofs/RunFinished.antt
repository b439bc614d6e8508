-- The run that an accepted journal leads to, brought to its end, and what the command makes of it.
use Rattle.std.specs.Prelude.{Err, Ok}
use mathlib.Core.Path.{◌≡◌, sym, ◌∙◌, ap}
use mathlib.Core.List.{List}
use Prim.Native.Nat.{ℕ}
use lib.ListN.{length}
use Rattle.terms.specs.declared.job.JobSize.{JobSize}
use Rattle.terms.specs.code.Sized.{job_sized}
use Rattle.refusal.specs.declared.Refusal.{Refusal}
use Rattle.entities.specs.declared.Triple.{Triple}
use Rattle.terms.specs.Job.{Job}
use Rattle.terms.specs.code.Held.{Spread}
use Rattle.terms.proofs.RowSteps.{length_terms}
use Rattle.history.specs.Drops.{counted_after}
use Rattle.history.specs.computed.Greedy.{finished}
use Rattle.history.proofs.RunLawful.{finished_length}
use Rattle.merging.specs.declared.run.Run.{Run}
use Rattle.merging.specs.code.State.{history_of}
use Rattle.merging.specs.code.Runs.{Holds, Went}
use Rattle.merging.proofs.Runs.{merges_within, merges_lawful}
use Rattle.obeying.specs.Obeying.{Obeyed}
use Rattle.obeying.specs.code.Obeys.{came_to}
use Rattle.letters_text.specs.Lettering.{asked, refuses, lettered_at, lettered_after}
use Rattle.letters_text.specs.code.Replaying.{Finished}

-- Finished on rows of its own, while other numbers begin with the work rows of the same terms.
module _ (size : JobSize) (numbers again now_own end_own : List ℕ) (run end : Run) where
  pub run_finished : Holds (job_sized size numbers) now_own run
      → Went (job_sized size numbers) (finished (job_sized size numbers) (history_of run)) now_own end end_own
      → Spread size.count numbers again → Finished (job_sized size numbers) end_own end again
  unfolding counted_after
  run_finished holds went spread =
      let job = job_sized size numbers in
      record {
        holds = went.holds;
        all =
            ap length went.merges
            ∙ finished_length job (history_of run) (merges_lawful job now_own run holds) (merges_within job now_own run holds);
        rows_are = record { held = rw (length_terms 8 size.count numbers) spread.held; rows_are = rw (length_terms 8 size.count numbers) spread.rows_are };
      }

module _ (job : Job) (word : List ℕ) (answer : Obeyed) where
  pub refused_lettered : (why : Refusal) (made : List Triple) → came_to (Err why) made ≡ answer → lettered_after job word answer ≡ refuses why
  unfolding came_to lettered_after
  refused_lettered why made comes = rw (sym comes)

  pub fine_lettered : (made : List Triple) → came_to (Ok tt) made ≡ answer → lettered_after job word answer ≡ lettered_at job (finished job made) (asked job.modes word)
  unfolding came_to lettered_after
  fine_lettered made comes = rw (sym comes)
