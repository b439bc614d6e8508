-- A journal that is continued is whole: it is the run's, and resumes to the same end.
use mathlib.Core.Path.{◌≡◌, refl, ap, ◌∙◌}
use mathlib.Core.List.{List}
use Prim.Native.Nat.{ℕ, ◌≤◌}
use native.Mathlib.Omega.{arith}
use lib.ListN.{length}
use Rattle.entities.specs.Limits.{row_width, most_terms}
use Rattle.fields.specs.Lines.{kept_of}
use Rattle.terms.specs.Rules.{rule_number}
use Rattle.terms.proofs.RowSteps.{length_terms}
use Rattle.journal.specs.Resuming.{Ending, done, ending, resumed}
use Rattle.journal.specs.CutAndResumed.{journal_of, Suffice}
use Rattle.journal.proofs.CallDone.{call_done}
use Rattle.journal.proofs.CutAndResumed.{cut_and_resumed}
use Rattle.terms_text.specs.Input.{Said, given, malformed, said}
use Rattle.terms_text.specs.Jobs.{Request}
use Rattle.text.specs.Running.{program_rooms, ran_by, ran}
use Rattle.text.specs.Output.{new_printed, continue_text, ResumesFrom, ContinuesWhole}

-- The rooms that sufficed once suffice again.
rooms_suffice : (modes rule : ℕ) (numbers read : List ℕ) (part : Ending) → resumed program_rooms.run modes rule numbers read ≡ done part
    → Suffice program_rooms.run modes part
unfolding ending
rooms_suffice modes rule numbers read part says =
    let known = call_done program_rooms.run modes rule numbers read part says in
    let counted : part.count ≡ known.count = ap (λ p. p.count) known.ends ∙ length_terms row_width known.count numbers in
    record { modes_taken = known.modes_are; room = rw counted known.rooms_are; numbers_fit = omega arith }

module _ (asks : Request) (read : List ℕ) (part : Ending) (says : ran program_rooms asks read ≡ done part) (cut : ℕ) (behind : length (kept_of read) ≤ cut) where
  resumes_from : ResumesFrom asks (journal_of read part) part cut
  unfolding ran ran_by
  resumes_from = go (said most_terms asks.text) refl says
    where
      go : (found : Said) → said most_terms asks.text ≡ found → ran_by program_rooms asks.rule found read ≡ done part
          → ResumesFrom asks (journal_of read part) part cut
      go (given modes numbers) f e =
          let again = cut_and_resumed program_rooms.run program_rooms.run modes (rule_number asks.rule) numbers read part e (rooms_suffice modes (rule_number asks.rule) numbers read part e) cut behind in
          record {
            again = again.again;
            resumes = rw f again.resumes;
            same_rows = again.same_rows;
            same_weight = again.same_weight;
            same_drops = again.same_drops;
            same_journal = again.same_journal;
          }
      go (malformed line) f e = let z : ◌≡◌ {A = ℕ} 0 1 = cc in absurd (omega arith)

-- The theorem: what is kept of a journal and its new lines are the run's journal, which resumes to the same end wherever it is cut behind what was kept.
pub continues_whole : ContinuesWhole
unfolding continue_text new_printed journal_of
continues_whole asks read part says =
    record { whole = rw says; resumes = resumes_from asks read part says }
