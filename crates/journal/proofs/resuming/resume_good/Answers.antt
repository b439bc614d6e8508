-- Each room that is too small refuses with nothing altered; with all of them the run goes on.
use mathlib.Core.Path.{◌≡◌}
use mathlib.Core.Bool.{true}
use borrow.Author.Tests.{le-leb, lt-leb}
use Rattle.refusal.specs.declared.Refusal.TheVariants.{Room}
use Rattle.journal.specs.Resuming.{with_terms, roomy}
use Rattle.journal.specs.Promises.{lent, rooms_of}
use Rattle.journal.proofs.CallDone.{rooms_fit, with_room}
use Rattle.journal.proofs.JournalAnswered.{nothing_altered, answers_so}
use Rattle.journal.proofs.resuming.resume_good.Goals as goal
use Rattle.journal.proofs.resuming.resume_good.Goals.{Else-drops-size}

-- The four tests passed.
all_room : (c : Else-drops-size)
    → (let args = c.args in
    roomy (rooms_of 256 (lent args.work.now args.rows.now args.journal.now args.drops.now)) args.size.modes args.size.count ≡ true)
all_room c = rooms_fit _ _ _ c.if-work-size.false c.if-rows-size.false c.if-journal-size.false c.if-drops-size.false

pub returns-then-work-size : goal.returns-then-work-size
unfolding with_terms roomy
returns-then-work-size c =
    let args = c.args in
    nothing_altered _ (lent args.work.now args.rows.now args.journal.now args.drops.now) Room (rw (lt-leb _ _ c.if-work-size.true))

pub returns-then-rows-size : goal.returns-then-rows-size
unfolding with_terms roomy
returns-then-rows-size c =
    let args = c.args in
    nothing_altered _ (lent args.work.now args.rows.now args.journal.now args.drops.now) Room (rw (le-leb _ _ c.if-work-size.false, lt-leb _ _ c.if-rows-size.true))

pub returns-then-journal-size : goal.returns-then-journal-size
unfolding with_terms roomy
returns-then-journal-size c =
    let args = c.args in
    nothing_altered _ (lent args.work.now args.rows.now args.journal.now args.drops.now) Room
    (rw (le-leb _ _ c.if-work-size.false, le-leb _ _ c.if-rows-size.false, lt-leb _ _ c.if-journal-size.true))

pub returns-then-drops-size : goal.returns-then-drops-size
unfolding with_terms roomy
returns-then-drops-size c =
    let args = c.args in
    nothing_altered _ (lent args.work.now args.rows.now args.journal.now args.drops.now) Room
    (rw (le-leb _ _ c.if-work-size.false, le-leb _ _ c.if-rows-size.false, le-leb _ _ c.if-journal-size.false, lt-leb _ _ c.if-drops-size.true))

pub resume_copy-requires : goal.resume_copy-requires
resume_copy-requires c =
    record {
      checked = c.requires;
      room = all_room (goal.at.resume_copy-requires c).Else-drops-size;
    }

pub returns : goal.returns
returns c =
    let args = c.args in
    let given = lent args.work.now args.rows.now args.journal.now args.drops.now in
    answers_so _ given _ _ _ (with_room (rooms_of 256 given) args.size.modes args.size.rule args.terms.now args.read.now args.size.count (all_room (goal.at.returns c).Else-drops-size))
    c.resume_copy.ensures
