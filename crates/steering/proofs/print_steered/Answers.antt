-- What was read is refused, or a job's terms are steered by.
use mathlib.Core.Path.{sym}
use native.Mathlib.Omega.{arith}
use lib.Seq.{length-take-le}
use Rattle.terms.proofs.GoodTerms.{accepted}
use Rattle.steering.specs.Steering.{steered_by, steered, steer_printed, steer_text}
use Rattle.steering.proofs.print_steered.Goals as goal

pub overflow_mul-end : goal.overflow_mul-end
overflow_mul-end c = omega (arith, c.in-Ok.ensures.asked.within)

pub shared_ref_as_front-own_rows : goal.shared_ref_as_front-own_rows
shared_ref_as_front-own_rows c = omega (arith, c.in-Ok.ensures.asked.within)

pub slice_bounds-own_rows-end : goal.slice_bounds-own_rows-end
slice_bounds-own_rows-end c = sym (length-take-le _ _ c.in-Ok.ensures.asked.within)

pub own_rows-own-requires : goal.own_rows-own-requires
own_rows-own-requires c =
    let terms = accepted _ _ _ c.in-Ok.ensures.asked.good in
    (terms.given, terms.at_most)

pub steer_job-requires : goal.steer_job-requires
steer_job-requires c =
    (_, c.own_rows-own.ensures.1)

pub returns-in-Err : goal.returns-in-Err
unfolding steer_text steered steered_by steer_printed
returns-in-Err c =
    rw c.in-Err.ensures.asked c.put_refusal.ensures

pub returns-in-Ok : goal.returns-in-Ok
unfolding steer_text steered steered_by
returns-in-Ok c =
    rw c.in-Ok.ensures.asked.is (c.steer_job.ensures _ c.own_rows-own.ensures.1)
