-- What is known of a job that was read, or of its refusal.
use Rattle.std.specs.Prelude.{Err, Ok, Result}
use mathlib.Core.Path.{◌≡◌, refl, ap, ◌∙◌}
use mathlib.Core.List.{List}
use Prim.Native.Nat.{ℕ, ◌*◌, ◌≤◌}
use native.Mathlib.Omega.{arith}
use lib.ListN.{length, take}
use lib.Seq.{take_all, take-take, length-take-le}
use Rattle.refusal.specs.declared.Refusal.{Refusal}
use Rattle.refusal.specs.declared.Refusal.TheVariants.{Malformed}
use Rattle.refusal.specs.Numbers.{number_of}
use Rattle.entities.specs.Limits.{most_modes}
use Rattle.terms.specs.declared.rules.Rule.{Rule}
use Rattle.terms.specs.declared.job.JobSize.{JobSize}
use Rattle.terms.proofs.GoodTerms.{accepted}
use Rattle.terms_text.specs.Input.{Said, given, malformed, said}
use Rattle.terms_text.specs.Jobs.{Request, request, JobSaid, a_job, no_job, counted, job_with, job_by, job_said}
use Rattle.terms_text.specs.code.JobsRead.{JobRead, ReadsJob, ReadsJobBy}
use Rattle.terms_text.proofs.JobCounted.{counted_good, counted_refusal}

module _ (rule : Rule) (modes : ℕ) (numbers : List ℕ) where
  pub reads_bad : (why : Refusal) → counted most_modes modes numbers ≡ Err why → job_by most_modes rule (given modes numbers) ≡ no_job why
  unfolding job_by job_with
  reads_bad why e = rw e

  pub reads_good : (count : ℕ) → counted most_modes modes numbers ≡ Ok count
      → (size : JobSize) → size.modes ≡ modes → size.rule ≡ rule → size.count ≡ count
      → JobRead (job_by most_modes rule (given modes numbers)) numbers size
  unfolding job_by job_with
  reads_good count e size modes_are rule_is count_is =
      let good = counted_good most_modes modes numbers count e in
      let whole = (accepted modes numbers count good.2).whole in
      let all : take (8 * count) numbers ≡ numbers = take_all (8 * count) numbers (omega (arith, whole)) in
      record {
        within = rw count_is (omega (arith, whole));
        good = rw (modes_are, count_is, all) good.2;
        is = rw (modes_are, rule_is, count_is, all, e);
      }

-- The job of the front of some numbers is that of the numbers.
pub reads_front : (meant : JobSaid) (numbers : List ℕ) (end : ℕ) (r : Result JobSize Refusal) → end ≤ length numbers
    → ReadsJob meant (take end numbers) r → ReadsJob meant numbers r
reads_front meant numbers end (Ok read) within known =
    let few : 8 * read.count ≤ end = omega (arith, known.within, length-take-le end numbers within) in
    let same : take (8 * read.count) (take end numbers) ≡ take (8 * read.count) numbers = take-take (8 * read.count) end numbers few in
    record {
      within = omega (arith, few);
      good = rw same at known.good;
      is = rw same at known.is;
    }
reads_front meant numbers end (Err why) within known = known

-- A text's job by another rule differs in the rule alone, and its refusal not at all.
ruled : Rule → JobSaid → JobSaid
ruled rule (a_job job) = a_job (record { modes = job.modes; rule = rule; terms = job.terms })
ruled rule (no_job why) = no_job why

job_ruled : (most : ℕ) (rule other : Rule) (says : Said) → job_by most other says ≡ ruled other (job_by most rule says)
unfolding job_by job_with ruled
job_ruled most rule other (given modes numbers) = go (counted most modes numbers)
  where
    go : (found : Result ℕ Refusal) → job_with modes other numbers found ≡ ruled other (job_with modes rule numbers found)
    go (Ok count) = refl
    go (Err why) = refl
job_ruled most rule other (malformed line) = refl

-- So what is read by one rule is read by any.
pub reads_by_any : (asks : Request) (numbers : List ℕ) (r : Result JobSize Refusal) → ReadsJob (job_said most_modes 2048 asks) numbers r
    → (rule : Rule) → ReadsJobBy rule (job_said most_modes 2048 (request rule asks.text)) numbers r
unfolding job_said ruled
reads_by_any asks numbers (Ok size) known rule = job_ruled most_modes asks.rule rule (said 2048 asks.text) ∙ ap (ruled rule) known.is
reads_by_any asks numbers (Err why) known rule = job_ruled most_modes asks.rule rule (said 2048 asks.text) ∙ ap (ruled rule) known

-- A text and its terms are refused by 18, or by 1 to 4: never by 5.
pub job_not_five : (most most_terms : ℕ) (asks : Request) (why : Refusal) → job_said most most_terms asks ≡ no_job why → number_of why ≡ 5 → ⊥
unfolding job_said job_by job_with
job_not_five most most_terms asks why = by_text (said most_terms asks.text)
  where
    by_terms : (modes : ℕ) (numbers : List ℕ) (found : Result ℕ Refusal) → counted most modes numbers ≡ found → job_with modes asks.rule numbers found ≡ no_job why
        → number_of why ≡ 5 → ⊥
    by_terms modes numbers (Ok count) counts e five = let z : ◌≡◌ {A = ℕ} 0 1 = cc in omega arith
    by_terms modes numbers (Err refusal) counts e five =
        let same : refusal ≡ why = cc in
        let few = rw same at (counted_refusal most modes numbers refusal counts) in
        omega arith

    by_text : (says : Said) → job_by most asks.rule says ≡ no_job why → number_of why ≡ 5 → ⊥
    by_text (given modes numbers) e five = by_terms modes numbers (counted most modes numbers) refl e five
    by_text (malformed line) e five =
        let same : Malformed line ≡ why = cc in
        let number : 18 ≡ number_of why = ap number_of same in
        omega arith
