-- Demand 3: the journal of a call that is done, cut after any byte that isn't before the end of what it kept, resumes to the same end.
use Rattle.std.specs.Prelude.{Ok}
use mathlib.Core.Path.{◌≡◌, ap, ◌∙◌, sym}
use mathlib.Core.Bool.{true}
use mathlib.Core.List.{List, [], ◌++◌, flat_map}
use mathlib.Core.Logic.{⊎_elim}
use Prim.Native.Nat.{ℕ, ◌+◌, ◌-◌, ◌*◌, ◌<◌, ◌≤◌}
use native.Mathlib.Omega.{arith}
use borrow.Author.Tests.{leb-true}
use lib.Dec.{leb}
use lib.ListN.{length, take}
use Rattle.lists.proofs.Parts.{nothing_in}
use Rattle.lists.proofs.Tests.{both, same_or_not}
use Rattle.entities.specs.declared.Triple.{Triple}
use Rattle.fields.specs.Lines.{lines, lines_after, kept_of}
use Rattle.terms.specs.Rules.{rule_good, rule_of}
use Rattle.terms.specs.Job.{Job, job_of}
use Rattle.terms.specs.Good.{modes_good, checked}
use Rattle.terms.proofs.RowSteps.{length_terms}
use Rattle.terms.proofs.GoodTerms.{accepted}
use Rattle.history.specs.Run.{run_weight}
use Rattle.history.specs.Drops.{drops}
use Rattle.history.specs.Flatpack.{flatpack}
use Rattle.obeying.specs.Obeying.{went, obeyed, obeyed_texts}
use Rattle.journal.specs.computed.NewText.{new_text, unbroken}
use Rattle.journal.specs.Resuming.{Ending, done, ending, Rooms, resumed, hatt_run}
use Rattle.journal.specs.CutAndResumed.{journal_of, ResumesCut, Suffice, JournalsResume, UnbrokenResume}
use Rattle.journal.proofs.CutObeyed.{CutObeyed, cut_obeyed}
use Rattle.journal.proofs.CutBehind.{cut_behind}
use Rattle.journal.proofs.CallDone.{call_done, done_in}
use Rattle.journal.proofs.ObeyedThenGreedy.{obeyed_then_greedy}

-- What was kept of a journal, and what the run from its history writes behind it.
abbrev whole : Job → List ℕ → List Triple → List ℕ
whole job bytes history = kept_of bytes ++ new_text job (length (kept_of bytes)) history

went_same : {h g : List Triple} → went h ≡ went g → h ≡ g
went_same e = cc

module _ (job : Job) (few : 3 * job.modes ≤ 65535) (light : length job.terms ≤ 65535) (bytes : List ℕ) (history : List Triple)
    (obeys : obeyed job bytes ≡ went history) (cut : ℕ) (behind : length (kept_of bytes) ≤ cut) where
  -- No line was kept: the journal is an unbroken run's.
  from_nothing : length (lines bytes) ≡ 0 → CutObeyed job history (whole job bytes history) (take cut (whole job bytes history))
  unfolding obeyed obeyed_texts kept_of flat_map unbroken
  from_nothing none =
      let empty : lines bytes ≡ [] = nothing_in (lines bytes) none in
      let begun : [] ≡ history = went_same (ap (obeyed_texts job) (sym empty) ∙ obeys) in
      rw (empty, ← begun) (cut_obeyed job few light cut)

  -- The lines that were kept are all before the cut.
  from_lines : 0 < length (lines bytes) → CutObeyed job history (whole job bytes history) (take cut (whole job bytes history))
  from_lines some =
      let e : length (kept_of bytes) + (cut - length (kept_of bytes)) ≡ cut = omega arith in
      rw e at (cut_behind job few light bytes history obeys some (cut - length (kept_of bytes)))

  pub cut_anywhere : CutObeyed job history (whole job bytes history) (take cut (whole job bytes history))
  cut_anywhere = ⊎_elim from_nothing (λ some. from_lines (omega arith)) (same_or_not (length (lines bytes)) 0)

-- The end of a run from a journal that is obeyed to another history of it.
module _ (other : Rooms) (modes rule count : ℕ) (numbers bytes : List ℕ) (history : List Triple) (named : rule_good rule ≡ true) (good : checked modes numbers ≡ Ok count)
    (fits : Suffice other modes (ending (job_of modes (rule_of rule) count numbers) bytes history))
    (obeys : obeyed (job_of modes (rule_of rule) count numbers) bytes ≡ went history) (cut : ℕ) (behind : length (kept_of bytes) ≤ cut) where
  abbrev job : Job
  job = job_of modes (rule_of rule) count numbers

  counted : length job.terms ≡ count
  counted = length_terms 8 count numbers

  found : CutObeyed job history (whole job bytes history) (take cut (whole job bytes history))
  unfolding modes_good
  found =
      let few = leb-true modes other.modes (both (leb 1 modes) (leb modes other.modes) fits.modes_taken).1 in
      let light = (accepted modes numbers count good).at_most in
      cut_anywhere job (omega (arith, few, fits.numbers_fit)) (omega (arith, counted, light)) bytes history obeys cut behind

  resumes_on : resumed other modes rule numbers (take cut (whole job bytes history)) ≡ done (ending job (take cut (whole job bytes history)) found.history)
  unfolding ending
  resumes_on = done_in other modes rule count numbers _ found.history fits.modes_taken named good (rw counted at fits.room) found.obeys

  pub resumes_ending : ResumesCut other modes rule numbers (journal_of bytes (ending job bytes history)) (ending job bytes history) cut
  unfolding ending journal_of
  resumes_ending =
      record {
        again = ending job (take cut (whole job bytes history)) found.history;
        resumes = resumes_on;
        same_rows = ap (flatpack modes) found.same_end;
        same_weight = ap (run_weight job) found.same_end;
        same_drops = ap (drops job) found.same_end;
        same_journal = found.same_bytes;
        told = obeyed_then_greedy other modes rule numbers _ _ resumes_on;
      }

pub cut_and_resumed : JournalsResume
cut_and_resumed rooms other modes rule numbers bytes part says fits cut behind =
    let known = call_done rooms modes rule numbers bytes part says in
    let as_ended : (p : Ending) → p ≡ ending (job_of modes (rule_of rule) known.count numbers) bytes known.history → Suffice other modes p
    → ResumesCut other modes rule numbers (journal_of bytes p) p cut =
    λ p e. rw e (λ enough. resumes_ending other modes rule known.count numbers bytes known.history known.rule_is known.terms_are enough known.obeys cut behind) in
    as_ended part known.ends fits

pub unbroken_resumed : UnbrokenResume
unfolding hatt_run journal_of kept_of lines lines_after flat_map
unbroken_resumed rooms other modes rule numbers whole says fits cut = cut_and_resumed rooms other modes rule numbers [] whole says fits cut (omega arith)
