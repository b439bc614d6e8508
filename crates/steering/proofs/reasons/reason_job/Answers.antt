-- What obeying came to is told, where it was refused.
use Rattle.terms.specs.code.Sized.{job_sized}
use Rattle.text.proofs.PrintedLines.{puts_none}
use Rattle.steering.proofs.ReasonTold.{refused_told, fine_told}
use Rattle.steering.proofs.reasons.reason_job.Goals as goal

pub obey-obeyed-requires : goal.obey-obeyed-requires
obey-obeyed-requires c = c.requires

pub put_refused-requires : goal.put_refused-requires
put_refused-requires c =
    let args = c.args in
    let numbers = c.requires.0 in
    let told = rw c.in-Err.is at (c.obey-obeyed.ensures numbers c.requires.1) in
    (job_sized args.size numbers, told.went.holds)

pub returns-in-Err : goal.returns-in-Err
returns-in-Err c numbers spread =
    let args = c.args in
    let job = job_sized args.size numbers in
    let told = rw c.in-Err.is at (c.obey-obeyed.ensures numbers spread) in
    rw (refused_told job args.read.now _ _ _ told.comes_to) at (c.put_refused.ensures job told.went.holds)

pub returns-in-Ok : goal.returns-in-Ok
returns-in-Ok c numbers spread =
    let args = c.args in
    let job = job_sized args.size numbers in
    let told = rw c.in-Ok.is at (c.obey-obeyed.ensures numbers spread) in
    rw (fine_told job args.read.now _ _ told.comes_to) at (puts_none args.out.now)
