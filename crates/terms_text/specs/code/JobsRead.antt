-- A job as the code reads it: its size, and the terms at the front of the lent numbers.
use Rattle.std.specs.Prelude.{◌≡◌, List, ℕ, ◌*◌, ◌≤◌, length, take, Err, Ok, Result}
use Rattle.refusal.specs.declared.Refusal.{Refusal}
use Rattle.entities.specs.Limits.{row_width}
use Rattle.terms.specs.declared.rules.Rule.{Rule}
use Rattle.terms.specs.declared.job.JobSize.{JobSize}
use Rattle.terms.specs.Job.{job_of}
use Rattle.terms.specs.code.Sized.{job_sized}
use Rattle.terms.specs.Good.{checked}
use Rattle.terms_text.specs.Jobs.{JobSaid, a_job, no_job}

-- A job is read: that of the front of the numbers, whose terms are accepted.
pub record JobRead (meant : JobSaid) (numbers : List ℕ) (size : JobSize) : Type 0 where
  pub within : row_width * size.count ≤ length numbers
  pub good : checked size.modes (take (row_width * size.count) numbers) ≡ Ok size.count
  pub is : meant ≡ a_job (job_sized size (take (row_width * size.count) numbers))

-- What is known of an answer: the job, or that the refusal is the text's.
abbrev pub ReadsJob : JobSaid → List ℕ → Result JobSize Refusal → Type 0
ReadsJob meant numbers (Ok size) = JobRead meant numbers size
ReadsJob meant numbers (Err why) = meant ≡ no_job why

-- The same of the job that the text is by any rule, whichever was asked for.
abbrev pub ReadsJobBy : Rule → JobSaid → List ℕ → Result JobSize Refusal → Type 0
ReadsJobBy rule meant numbers (Ok size) = meant ≡ a_job (job_of size.modes rule size.count (take (row_width * size.count) numbers))
ReadsJobBy rule meant numbers (Err why) = meant ≡ no_job why
