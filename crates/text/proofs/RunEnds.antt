-- The journal's answer, and what it left in what was lent, tell what a run comes to; and so it is printed.
use Rattle.std.specs.Prelude.{Err, Ok, Result}
use mathlib.Core.Path.{◌≡◌, refl, ap, ◌∙◌, sym}
use mathlib.Core.List.{List}
use Prim.Native.Nat.{ℕ, ◌+◌, ◌*◌, ◌≤◌}
use native.Mathlib.Omega.{arith}
use lib.ListN.{length, take, drop, length-append}
use Rattle.lists.specs.Written.{written_at}
use Rattle.lists.proofs.Written.{part_written}
use Rattle.refusal.specs.declared.Refusal.{Refusal}
use Rattle.entities.specs.Limits.{most_modes}
use Rattle.journal.specs.Resuming.{Outcome, done, refuses, resumed}
use Rattle.journal.specs.declared.resuming.Numbers.{Numbers}
use Rattle.journal.specs.Promises.{rooms_of, returned, lent_then, Answers, Lent as CallLent}
use Rattle.journal.proofs.RowsFit.{rows_fit}
use Rattle.text.specs.declared.running.Run.{Run}
use Rattle.text.specs.code.Runs.{Lent, lent, RanDone, RanRefused, drops_then}
use Rattle.text.specs.Running.{program_rooms}
use Rattle.text.specs.Output.{done_text, printed}

-- What a call is lent for rows and journal.
abbrev pub written_of : CallLent → Lent
written_of given = lent given.rows given.journal

module _ (modes rule : ℕ) (numbers read : List ℕ) (given after : CallLent) (r : Result Numbers Refusal) (rooms : rooms_of most_modes given ≡ program_rooms.run)
    (answers : Answers (λ lent. resumed (rooms_of most_modes lent) modes rule numbers read) given after r) where
  abbrev meant : Outcome
  meant = resumed program_rooms.run modes rule numbers read

  same_answer : r ≡ returned meant
  same_answer = rw (← rooms) answers.answer

  same_left : after ≡ lent_then meant given
  same_left = rw (← rooms) answers.leaves

  refused_as : (means : Outcome) (refusal : Refusal) → Err refusal ≡ returned means → after ≡ lent_then means given
      → RanRefused means (written_of given) (written_of after) refusal
  unfolding returned lent_then
  refused_as (done end) refusal e f = let z : ◌≡◌ {A = ℕ} 0 1 = cc in absurd (omega arith)
  refused_as (refuses other) refusal e f = record { is = ap refuses (cc); leaves = ap written_of f }

  drops_as : (means : Outcome) → after ≡ lent_then means given → after.drops ≡ drops_then means given.drops
  unfolding lent_then drops_then
  drops_as (done end) f = ap (λ l. l.drops) f
  drops_as (refuses refusal) f = ap (λ l. l.drops) f

  -- What the call left in the table.
  pub drops_left : after.drops ≡ drops_then meant given.drops
  drops_left = drops_as meant same_left

  -- The call refused.
  pub refused_runs : (refusal : Refusal) → r ≡ Err refusal → RanRefused meant (written_of given) (written_of after) refusal
  refused_runs refusal e = refused_as meant refusal (sym e ∙ same_answer) same_left

  -- The call ran to the end; its new lines have room, as a slice keeps its length.
  module _ (found : Numbers) (stays : length after.journal ≡ length given.journal) where
    abbrev as_run : Run
    as_run = record { modes = modes; weight = found.weight; trials = found.trials; new = found.new }

    done_as : (means : Outcome) → meant ≡ means → Ok found ≡ returned means → after ≡ lent_then means given
        → RanDone most_modes means (written_of given) (written_of after) as_run
    unfolding returned lent_then written_at
    done_as (refuses refusal) m e f = let z : ◌≡◌ {A = ℕ} 0 1 = cc in absurd (omega arith)
    done_as (done end) m e f =
        let fit = rows_fit program_rooms.run modes rule numbers read end (omega arith) m in
        let new : found.new ≡ length end.new = cc in
        let journal : after.journal ≡ written_at 0 end.new given.journal = ap (λ l. l.journal) f in
        record {
          ending = end;
          is = refl;
          weight = cc;
          trials = cc;
          few = fit.few;
          exact = fit.exact;
          steps = fit.steps;
          rows = ap (λ l. l.rows) f;
          new = new;
          fits = omega (arith, stays, ap length journal, length-append end.new (drop (0 + length end.new) given.journal));
          journal = journal;
        }

    pub done_runs : r ≡ Ok found → RanDone most_modes meant (written_of given) (written_of after) as_run
    done_runs e = done_as meant refl (sym e ∙ same_answer) same_left

module _ {most : ℕ} {means : Outcome} {before after : Lent} {run : Run} (known : RanDone most means before after run) where
  -- The run's new lines stand in front.
  pub new_stand : take run.new after.journal ≡ known.ending.new
  new_stand = rw (known.journal, known.new) (part_written 0 known.ending.new before.journal (omega (arith, known.new, known.fits)))

  module _ (room : 4 * most ≤ length before.rows) where
    -- The run's rows stand in front.
    pub rows_stand : take (4 * run.modes) after.rows ≡ known.ending.rows
    rows_stand = rw (known.rows, ← known.exact) (part_written 0 known.ending.rows before.rows (omega (arith, known.exact, known.few)))

    pub done_prints : done_text run.weight run.trials (take (4 * run.modes) after.rows) ≡ printed means
    unfolding printed
    done_prints = rw (known.is, known.weight, known.trials, rows_stand)
