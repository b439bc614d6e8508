-- A journal that is refused leaves everything as it was; else the run goes on from what it came to.
use mathlib.Core.Path.{◌≡◌}
use mathlib.Core.Bool.{true}
use mathlib.Core.List.{List}
use Prim.Native.Nat.{ℕ}
use Rattle.terms.specs.declared.job.JobSize.{JobSize}
use Rattle.terms.specs.code.Sized.{job_sized}
use Rattle.terms.proofs.RowSteps.{length_terms}
use Rattle.merging.specs.declared.run.Run.{Run}
use Rattle.merging.specs.code.Runs.{Holds}
use Rattle.obeying.specs.Obeying.{obeyed}
use Rattle.journal.specs.Resuming.{roomy}
use Rattle.journal.specs.Promises.{Lent, lent, rooms_of}
use Rattle.journal.specs.code.Finishing.{FromOwn}
use Rattle.journal.proofs.JournalAnswered.{nothing_altered, answers_so, journal_refused, journal_obeyed}
use Rattle.refusal.proofs.Told.{handed_on}
use Rattle.journal.proofs.resuming.resume_own.Goals as goal

-- The run that an accepted journal leads to, on the call's own rows.
accepted : (size : JobSize) (numbers now_own : List ℕ) (run : Run) (given : Lent)
    → Holds (job_sized size numbers) now_own run → roomy (rooms_of 256 given) size.modes size.count ≡ true
    → FromOwn (job_sized size numbers) run now_own given
accepted size numbers now_own run given holds room = record { holds = holds; room = rw (length_terms 8 size.count numbers) room }

pub finish_lent-requires : goal.finish_lent-requires
finish_lent-requires c =
    let size = c.args.size in
    let numbers = c.requires.by_index.0 in
    let obey = c.obey-obeyed.ensures numbers c.requires.by_index.1 in
    (job_sized size numbers, accepted size numbers _ _ _ obey.went.holds c.requires.room)

pub returns-in_err-obeyed : goal.returns-in_err-obeyed
returns-in_err-obeyed c numbers spread =
    let args = c.args in
    let job = job_sized args.size numbers in
    let told = rw c.in_err-obeyed.was at (c.obey-obeyed.ensures numbers spread) in
    rw (handed_on c.from_residual.ensures)
    (nothing_altered _ (lent args.work.now args.rows.now args.journal.now args.drops.now) _
    (journal_refused job args.read.now (obeyed job args.read.now) _ _ told.comes_to))

pub returns : goal.returns
returns c numbers spread =
    let args = c.args in
    let job = job_sized args.size numbers in
    let told = rw c.in_ok-obeyed.was at (c.obey-obeyed.ensures numbers spread) in
    let from = accepted args.size numbers _ _ _ told.went.holds c.requires.room in
    answers_so _ (lent args.work.now args.rows.now args.journal.now args.drops.now) _ _ _
    (journal_obeyed job args.read.now (obeyed job args.read.now) _ told.comes_to)
    (c.finish_lent.ensures job args.read.now from c.kept_bytes-kept.ensures.0)
