-- What was read is malformed, or its terms are a job's or refused.
use mathlib.Core.Path.{sym}
use Prim.Native.Nat.{◌*◌, ◌≤◌}
use native.Mathlib.Omega.{arith}
use lib.ListN.{length}
use lib.Seq.{length-take-le}
use Rattle.refusal.proofs.Told.{handed_on}
use Rattle.terms_text.specs.Jobs.{requested, job_by, job_said}
use Rattle.terms_text.proofs.JobsRead.{reads_front, reads_by_any}
use Rattle.terms_text.proofs.jobs.read_job.Goals as goal
use Rattle.terms_text.proofs.jobs.read_job.Goals.{In_ok-given}

-- The numbers of the terms are within the room.
room : (c : In_ok-given) → 8 * c.in_ok-given.given.count ≤ length c.read_input.new.numbers
room c = omega (arith, c.in_ok-given.ensures.few)

pub slice_bounds-count_job-end : goal.slice_bounds-count_job-end
slice_bounds-count_job-end c = sym (length-take-le _ _ (room (goal.at.slice_bounds-count_job-end c).In_ok-given))

pub returns-in_err-given-clause-asked : goal.returns-in_err-given-clause-asked
unfolding job_said job_by
returns-in_err-given-clause-asked c =
    let malformed = c.in_err-given.ensures in
    rw (handed_on c.from_residual.ensures, malformed.1, ← malformed.0)

pub returns-in_err-given-clause-by_any_rule : goal.returns-in_err-given-clause-by_any_rule
returns-in_err-given-clause-by_any_rule c = reads_by_any (requested c.args.asks.now) _ _ (returns-in_err-given-clause-asked c)

pub returns-clause-asked : goal.returns-clause-asked
unfolding job_said
returns-clause-asked c =
    reads_front (job_said 256 2048 (requested c.args.asks.now)) _ _ _ (room (goal.at.returns-clause-asked c).In_ok-given) (rw (sym c.in_ok-given.ensures.says) at c.count_job.ensures)

pub returns-clause-by_any_rule : goal.returns-clause-by_any_rule
returns-clause-by_any_rule c = reads_by_any (requested c.args.asks.now) _ _ (returns-clause-asked c)
