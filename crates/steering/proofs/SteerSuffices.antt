-- 5 is never printed where merges are steered by: a journal begins with its header's word, and the refusals have other numbers.
use mathlib.Core.Path.{◌≡◌, refl, ap, sym, ◌∙◌}
use mathlib.Core.Bool.{Bool, true, false, cond}
use mathlib.Core.List.{List}
use Prim.Native.Nat.{ℕ}
use native.Mathlib.Omega.{arith}
use lib.Dec.{eqb}
use lib.ListN.{length, get_or}
use Rattle.refusal.specs.declared.Refusal.{Refusal}
use Rattle.refusal.specs.declared.Refusal.TheVariants.{LineForm, Room}
use Rattle.refusal.specs.Numbers.{number_of}
use Rattle.entities.specs.declared.Triple.{Triple}
use Rattle.entities.specs.Limits.{most_modes, most_terms}
use Rattle.fields.specs.Lines.{kept_of}
use Rattle.fields.specs.Fields.{tabbed}
use Rattle.terms.specs.Job.{Job}
use Rattle.obeying.specs.Obeying.{line_after, Obeyed, went, refused, obeyed_by_hand}
use Rattle.obeying.proofs.LineRefused.{by_hand_refusal}
use Rattle.journal.specs.Writing.{journal_text}
use Rattle.terms_text.specs.Jobs.{Request, JobSaid, a_job, no_job, job_said}
use Rattle.terms_text.proofs.JobsRead.{job_not_five}
use Rattle.text.specs.Running.{program_rooms}
use Rattle.text.specs.Output.{line_of, refusal_text}
use Rattle.text.proofs.NewLinesSuffice.{header_first}
use Rattle.text.proofs.RoomSuffices.{refusal_five}
use Rattle.steering.specs.Steering.{
  Steered,
  writes,
  refuses,
  steered_as,
  steered_by,
  steered,
  steer_printed,
  steer_text,
  SteerSuffices,
}
use Rattle.steering.proofs.SteeredObeyed.{steered_is_obeyed}

-- The number with which steering ends; none where a journal is printed.
unfoldable number_in : Steered → ℕ
number_in (writes journal) = 0
number_in (refuses refusal) = number_of refusal

module _ (merges : List ℕ) where
  as_never : (job : Job) (found : Obeyed) → obeyed_by_hand job merges ≡ found → number_in (steered_as job merges found) ≡ 5 → ⊥
  unfolding number_in steered_as
  as_never job (went history) e h = go (eqb (length (kept_of merges)) (length merges)) h
    where
      go : (b : Bool) → number_in (cond b (writes (journal_text job history)) (refuses (LineForm (line_after history)))) ≡ 5 → ⊥
      go true h = omega arith
      go false h = omega arith
  as_never job (refused made why) e h = omega (arith, h, (by_hand_refusal job merges made why e).1.from)

  job_never : (found : JobSaid) → ((why : Refusal) → found ≡ no_job why → number_of why ≡ 5 → ⊥) → number_in (steered_by found merges) ≡ 5 → ⊥
  unfolding number_in steered_by
  job_never (a_job job) other h = as_never job (obeyed_by_hand job merges) refl h
  job_never (no_job why) other h = other why refl h

number_never : (asks : Request) (merges : List ℕ) → number_in (steered program_rooms asks merges) ≡ 5 → ⊥
unfolding steered
number_never asks merges = job_never merges (job_said most_modes most_terms asks) (job_not_five most_modes most_terms asks)

-- A journal begins with its rule's word, a refusal with `r`.
journal_first : (job : Job) (history : List Triple) → journal_text job history ≡ refusal_text Room → ⊥
unfolding journal_text tabbed refusal_text line_of
journal_first job history e = header_first job.rule job.modes (length job.terms) _ (ap (λ text. get_or text 0 0) e)

-- The theorem: 5 is never printed.
pub steer_suffices : SteerSuffices
unfolding steer_text steer_printed number_in
steer_suffices asks merges e = go (steered program_rooms asks merges) refl e
  where
    go : (end : Steered) → steered program_rooms asks merges ≡ end → steer_printed end ≡ refusal_text Room → ⊥
    go (writes journal) f g =
        let known = steered_is_obeyed asks merges journal f in
        journal_first known.job known.history (sym known.journal_is ∙ g)
    go (refuses refusal) f g = number_never asks merges (rw f (refusal_five refusal g))
