-- A job and the size of it that the code passes along.
use Rattle.std.specs.Prelude.{◌≡◌, List, ℕ, length}
use Rattle.terms.specs.declared.job.JobSize.{JobSize}
use Rattle.terms.specs.Job.{Job, job_of}

-- The job of this size whose rows are the first of these numbers.
abbrev pub job_sized : JobSize → List ℕ → Job
job_sized size numbers = job_of size.modes size.rule size.count numbers

-- The job is of this size.
pub record Sized (job : Job) (size : JobSize) : Type 0 where
  pub modes_are : job.modes ≡ size.modes
  pub rule_is : job.rule ≡ size.rule
  pub count_is : length job.terms ≡ size.count
