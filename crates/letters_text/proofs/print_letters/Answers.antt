-- What was read is refused, or a job's.
use mathlib.Core.Path.{sym}
use native.Mathlib.Omega.{arith}
use lib.Seq.{length-take-le}
use Rattle.letters_text.specs.Lettering.{lettered_by, lettered, letters_printed, letters_text}
use Rattle.letters_text.proofs.print_letters.Goals as goal

pub overflow_mul-end : goal.overflow_mul-end
overflow_mul-end c = omega (arith, c.in-Ok.ensures.asked.within)

pub shared_ref_as_front-letters_job : goal.shared_ref_as_front-letters_job
shared_ref_as_front-letters_job c = omega (arith, c.in-Ok.ensures.asked.within)

pub slice_bounds-letters_job-end : goal.slice_bounds-letters_job-end
slice_bounds-letters_job-end c = sym (length-take-le _ _ c.in-Ok.ensures.asked.within)

pub letters_job-requires : goal.letters_job-requires
letters_job-requires c =
    c.in-Ok.ensures.asked.good

pub returns-in-Err : goal.returns-in-Err
unfolding letters_text lettered lettered_by letters_printed
returns-in-Err c =
    rw c.in-Err.ensures.asked c.put_refusal.ensures

pub returns-in-Ok : goal.returns-in-Ok
unfolding letters_text lettered lettered_by
returns-in-Ok c =
    rw c.in-Ok.ensures.asked.is c.letters_job.ensures
