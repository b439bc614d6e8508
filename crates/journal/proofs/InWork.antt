-- A run's rows put at the front of the lent work: the run is finished there, and the zeros cover them.
use Rattle.std.specs.Prelude.{Result}
use Rattle.journal.specs.declared.resuming.Numbers.{Numbers}
use Rattle.refusal.specs.declared.Refusal.{Refusal}
use mathlib.Core.Path.{◌≡◌, ap, ◌∙◌}
use mathlib.Core.List.{List}
use Prim.Native.Nat.{ℕ, ◌*◌, ◌≤◌}
use native.Mathlib.Omega.{arith}
use lib.ListN.{length, take, drop, replicate, length-replicate}
use lib.Seq.{length-take-le}
use Rattle.lists.specs.Written.{written_at}
use Rattle.lists.proofs.Written.{length_written, drop_written, written_front}
use Rattle.terms.specs.Job.{Job}
use Rattle.merging.specs.declared.run.Run.{Run}
use Rattle.merging.specs.code.State.{history_of}
use Rattle.merging.proofs.Runs.{rows_room, moved}
use Rattle.journal.specs.Resuming.{done, ending}
use Rattle.journal.specs.Promises.{Lent, lent, rooms_of, lent_then, Answers}
use Rattle.journal.specs.code.Finishing.{FromOwn, Finishing}
use Rattle.journal.proofs.CallDone.{rooms_say}

module _ (job : Job) (run : Run) (own : List ℕ) (given : Lent) (from : FromOwn job run own given) where
  abbrev front : List ℕ
  front = take (9 * length job.terms) own

  abbrev zeros : List ℕ
  zeros = replicate (9 * length job.terms) 0

  pub front_length : length (take (9 * length job.terms) own) ≡ 9 * length job.terms
  front_length = length-take-le (9 * length job.terms) own (omega (arith, rows_room job own run from.holds))

  pub front_fits : length (take (9 * length job.terms) own) ≤ length given.work
  front_fits = omega (arith, front_length, (rooms_say (rooms_of 256 given) job.modes (length job.terms) from.room).0)

  module _ (put : List ℕ) (written : put ≡ written_at 0 front given.work) (there : take (length front) put ≡ front) where
    pub in_work : Finishing job run (lent put given.rows given.journal given.drops)
    in_work =
        let said = rooms_say (rooms_of 256 given) job.modes (length job.terms) from.room in
        let same : length put ≡ length given.work = rw written (length_written 0 front given.work (omega (arith, front_fits))) in
        record {
          holds =
              moved job own run from.holds put (omega (arith, said.0)) (rw front_length at there);
          rows_room = said.1;
          journal_room = said.2;
          drops_room = said.3;
        }

    -- What stands behind the rows is what was lent.
    behind : drop (length zeros) put ≡ drop (length zeros) given.work
    behind =
        rw (length-replicate, written)
        (drop_written 0 front given.work (omega (arith, front_fits)) (9 * length job.terms) (omega (arith, front_length)))

    pub answers_lent : (bytes : List ℕ) (after : Lent) (r : Result Numbers Refusal)
        → Answers (λ any. done (ending job bytes (history_of run))) (lent put given.rows given.journal given.drops) after r
        → Answers (λ any. done (ending job bytes (history_of run))) given after r
    unfolding lent_then ending
    answers_lent bytes after r answers =
        let end = ending job bytes (history_of run) in
        record {
          answer = answers.answer;
          numbers = answers.numbers;
          leaves =
              answers.leaves
              ∙ ap (λ l. lent l (written_at 0 end.rows given.rows) (written_at 0 end.new given.journal) (written_at 0 end.drops given.drops))
              (written_front zeros put given.work behind);
        }
