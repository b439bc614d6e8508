-- 5 is never the answer: terms are refused by 1 to 4, a journal's lines by 6 to 12, a text by 18.
use Rattle.std.specs.Prelude.{None, Option, Some}
use mathlib.Core.Path.{◌≡◌, refl, ap}
use mathlib.Core.List.{List}
use Prim.Native.Nat.{ℕ}
use native.Mathlib.Omega.{arith}
use Rattle.refusal.specs.declared.Refusal.{Refusal}
use Rattle.refusal.specs.Numbers.{number_of}
use Rattle.entities.specs.declared.Triple.{Triple}
use Rattle.entities.specs.Limits.{most_modes, most_terms}
use Rattle.terms.specs.Job.{Job}
use Rattle.history.specs.computed.Greedy.{finished}
use Rattle.obeying.specs.Obeying.{Obeyed, went, refused, obeyed}
use Rattle.obeying.proofs.LineRefused.{journal_refusal}
use Rattle.terms_text.specs.Jobs.{JobSaid, a_job, no_job, job_said}
use Rattle.terms_text.proofs.JobsRead.{job_not_five}
use Rattle.letters_text.specs.Lettering.{
  asked,
  Lettered,
  shows,
  no_step,
  refuses,
  lettered_at,
  lettered_after,
  lettered_by,
  lettered,
  LettersSuffice,
}

-- The number with which the command ends; none where it isn't refused.
unfoldable number_in : Lettered → ℕ
number_in (shows these) = 0
number_in (no_step steps) = 0
number_in (refuses refusal) = number_of refusal

at_never : (job : Job) (merges : List Triple) (step : Option ℕ) → number_in (lettered_at job merges step) ≡ 5 → ⊥
unfolding number_in lettered_at
at_never job merges (Some step) h = omega arith
at_never job merges None h = omega arith

module _ (read word : List ℕ) where
  after_never : (job : Job) (found : Obeyed) → obeyed job read ≡ found → number_in (lettered_after job word found) ≡ 5 → ⊥
  unfolding number_in lettered_after
  after_never job (went history) e h = at_never job (finished job history) (asked job.modes word) h
  after_never job (refused made why) e h = omega (arith, h, (journal_refusal job read made why e).1.from)

  job_never : (found : JobSaid) → ((why : Refusal) → found ≡ no_job why → number_of why ≡ 5 → ⊥) → number_in (lettered_by found read word) ≡ 5 → ⊥
  unfolding number_in lettered_by
  job_never (a_job job) other h = after_never job (obeyed job read) refl h
  job_never (no_job why) other h = other why refl h

pub letters_suffice : LettersSuffice
unfolding number_in lettered
letters_suffice asks read word e =
    job_never read word (job_said most_modes most_terms asks) (job_not_five most_modes most_terms asks) (ap number_in e)
