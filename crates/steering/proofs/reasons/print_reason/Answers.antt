-- Of what is refused there is nothing to tell; a job's journal is looked at.
use mathlib.Core.Path.{sym}
use native.Mathlib.Omega.{arith}
use lib.Seq.{length-take-le}
use Rattle.terms.proofs.GoodTerms.{accepted}
use Rattle.text.proofs.PrintedLines.{puts_none}
use Rattle.steering.specs.Reasons.{reason_by, reason_text}
use Rattle.steering.proofs.reasons.print_reason.Goals as goal

pub overflow_mul-end : goal.overflow_mul-end
overflow_mul-end c = omega (arith, c.in-Ok.ensures.asked.within)

pub shared_ref_as_front-own_rows : goal.shared_ref_as_front-own_rows
shared_ref_as_front-own_rows c = omega (arith, c.in-Ok.ensures.asked.within)

pub slice_bounds-own_rows-end : goal.slice_bounds-own_rows-end
slice_bounds-own_rows-end c = sym (length-take-le _ _ c.in-Ok.ensures.asked.within)

pub own_rows-own-requires : goal.own_rows-own-requires
own_rows-own-requires c =
    let terms = accepted _ _ _ c.in-Ok.ensures.asked.good in
    (terms.given, terms.at_most)

pub reason_job-requires : goal.reason_job-requires
reason_job-requires c =
    (_, c.own_rows-own.ensures.1)

pub returns-in-Err : goal.returns-in-Err
unfolding reason_text reason_by
returns-in-Err c =
    rw c.in-Err.ensures.asked (puts_none _)

pub returns-in-Ok : goal.returns-in-Ok
unfolding reason_text reason_by
returns-in-Ok c =
    rw c.in-Ok.ensures.asked.is (c.reason_job.ensures _ c.own_rows-own.ensures.1)
