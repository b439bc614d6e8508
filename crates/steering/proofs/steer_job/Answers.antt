-- What obeying came to is refused or written.
use Rattle.terms.specs.code.Sized.{job_sized}
use Rattle.steering.specs.Steering.{steer_printed}
use Rattle.steering.proofs.JournalSteered.{refused_steered, fine_steered}
use Rattle.steering.proofs.steer_job.Goals as goal

pub obey_by_hand-obeyed-requires : goal.obey_by_hand-obeyed-requires
obey_by_hand-obeyed-requires c = c.requires

pub put_journal-requires : goal.put_journal-requires
put_journal-requires c =
    let args = c.args in
    let numbers = c.requires.0 in
    let told = rw c.in-Ok.is at (c.obey_by_hand-obeyed.ensures numbers c.requires.1) in
    (job_sized args.size numbers, told.went.holds)

pub returns-in-Err : goal.returns-in-Err
unfolding steer_printed
returns-in-Err c numbers spread =
    let args = c.args in
    let job = job_sized args.size numbers in
    let told = rw c.in-Err.is at (c.obey_by_hand-obeyed.ensures numbers spread) in
    rw (refused_steered job args.merges.now _ _ _ told.comes_to) c.put_refusal.ensures

pub returns-in-Ok : goal.returns-in-Ok
returns-in-Ok c numbers spread =
    let args = c.args in
    let job = job_sized args.size numbers in
    let told = rw c.in-Ok.is at (c.obey_by_hand-obeyed.ensures numbers spread) in
    rw (fine_steered job args.merges.now _ _ told.comes_to)
    (c.put_journal.ensures job told.went.holds)
