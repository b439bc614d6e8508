-- What a text asks for: 18 is "before any other number", and then "the order is by number", 1 of the modes and 2, 3 and 4 of the terms.
use Rattle.std.specs.Prelude.{cond, not, List, ℕ, Err, Ok, Result}
use Rattle.refusal.specs.declared.Refusal.{Refusal}
use Rattle.refusal.specs.declared.Refusal.TheVariants.{Modes, Malformed}
use Rattle.terms.specs.declared.rules.Rule.{Rule}
use Rattle.terms.specs.Job.{Job, job_of}
use Rattle.terms.specs.Good.{modes_good, checked}
use Rattle.terms_text.specs.declared.jobs.Request.{Request as Asked}
use Rattle.terms_text.specs.Input.{Said, given, malformed, said}

-- What a command is asked for: the rule that it names, and the text of its terms.
pub record Request : Type 0 where
  pub rule : Rule
  pub text : List ℕ

abbrev pub request : Rule → List ℕ → Request
request rule text = record { rule = rule; text = text }

-- The request that the code's own record holds.
abbrev pub requested : Asked → Request
requested asks = request asks.rule asks.text.now

-- A job, or why the text or its terms are refused.
pub data JobSaid : Type 0 where
  a_job : Job → JobSaid
  no_job : Refusal → JobSaid

-- How many terms there are, or why they are no job's.
unfoldable pub counted : ℕ → ℕ → List ℕ → Result ℕ Refusal
counted most modes numbers = cond (not (modes_good most modes)) (Err Modes) (checked modes numbers)

unfoldable pub job_with : ℕ → Rule → List ℕ → Result ℕ Refusal → JobSaid
job_with modes rule numbers (Ok count) = a_job (job_of modes rule count numbers)
job_with modes rule numbers (Err refusal) = no_job refusal

unfoldable pub job_by : ℕ → Rule → Said → JobSaid
job_by most rule (given modes numbers) = job_with modes rule numbers (counted most modes numbers)
job_by most rule (malformed line) = no_job (Malformed line)

-- The job that is asked for, of at most so many modes and so many terms.
unfoldable pub job_said : ℕ → ℕ → Request → JobSaid
job_said most_modes most_terms asks = job_by most_modes asks.rule (said most_terms asks.text)
