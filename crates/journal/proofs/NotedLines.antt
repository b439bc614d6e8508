-- The lines of the merges that a finished run has made behind a history are those of the greedy steps from there.
use mathlib.Core.Path.{◌≡◌, refl, ap, ◌∙◌, sym}
use mathlib.Core.List.{List, [], ◌∷◌, ◌++◌, flat_map, append-nil}
use Prim.Native.Nat.{ℕ, zero, suc, ◌+◌, ◌-◌, ◌<◌, ◌≤◌}
use native.Mathlib.Omega.{arith}
use borrow.Author.Tests.{eq-eqb, ne_eqb}
use lib.ListN.{length, length-append}
use Rattle.lists.specs.Ranges.{listed}
use Rattle.lists.proofs.Joined.{flatMap_joined}
use Rattle.lists.proofs.Listed.{listed_more}
use Rattle.entities.specs.declared.Triple.{Triple}
use Rattle.terms.specs.Job.{Job}
use Rattle.history.specs.History.{merge_of, history_before}
use Rattle.history.specs.Choice.{weight_in}
use Rattle.history.specs.computed.Choosing.{chosen}
use Rattle.history.specs.computed.Greedy.{greedy, finished}
use Rattle.history.proofs.RunLawful.{greedy_length}
use Rattle.history.proofs.HistoryBefore.{length_before}
use Rattle.history.proofs.GreedySteps.{before_step, step_chosen}
use Rattle.merging.specs.declared.run.Run.{Run}
use Rattle.merging.specs.code.State.{history_of}
use Rattle.merging.proofs.Runs.{merges_within}
use Rattle.obeying.specs.LineForms.{header_text, merge_text}
use Rattle.journal.specs.Writing.{line_of, header_behind}
use Rattle.journal.specs.computed.NewText.{greedy_lines, new_text}
use Rattle.journal.specs.code.NewLines.{noted_line, noted_text, noted_from, noted_behind, StepsFit, TextFits, Ended}
use Rattle.journal.proofs.GreedyLines.{greedy_lines_more}

module _ (job : Job) where
  pub no_header : (kept : ℕ) → (kept ≡ 0 → ⊥) → header_behind job kept ≡ []
  unfolding header_behind
  no_header kept some = rw (ne_eqb kept 0 some)

  pub header_first : (kept : ℕ) → kept ≡ 0 → header_behind job kept ≡ header_text job.rule job.modes (length job.terms)
  unfolding header_behind
  header_first kept none_kept = rw (eq-eqb kept 0 none_kept)

  pub noted_none : (history : List Triple) (from : ℕ) → noted_text job history from 0 ≡ []
  unfolding noted_text listed flat_map
  noted_none history from = refl

  pub noted_more : (history : List Triple) (from count : ℕ)
      → noted_text job history from (count + 1) ≡ noted_text job history from count ++ noted_line job history (from + count)
  unfolding noted_text flat_map
  noted_more history from count =
      ap (flat_map (λ line. line)) (listed_more (noted_line job history) from count)
      ∙ flatMap_joined (λ line. line) (listed (noted_line job history) from count) (noted_line job history (from + count) ∷ [])
      ∙ ap (λ l. noted_text job history from count ++ l) (append-nil (noted_line job history (from + count)))

-- The line of a step, of the merge and the weight that the run has for it.
pub noted_as : (job : Job) (history : List Triple) (step : ℕ) (triple : Triple) (weight : ℕ) → step < length history
    → triple ≡ merge_of history step → weight ≡ weight_in job (history_before history step) (merge_of history step)
    → merge_text step triple weight ≡ noted_line job history step
unfolding noted_line line_of
noted_as job history step triple weight made merges weighs =
    rw (length_before history step (omega arith), merges, weighs)

-- The merges of a run that went so many greedy steps from a history.
module _ (job : Job) (history : List Triple) (steps : ℕ) where
  abbrev all : List Triple
  all = greedy job steps history

  line_there : (i : ℕ) → i < steps
      → noted_line job all (length history + i) ≡ line_of job (greedy job i history) (chosen job (greedy job i history))
  unfolding noted_line
  line_there i h = rw (before_step job steps history i (omega arith), step_chosen job steps history i h)

  none_listed : listed (noted_line job all) (length history) 0 ≡ greedy_lines job 0 history
  unfolding listed greedy_lines
  none_listed = refl

  noted_greedy : (i : ℕ) → i ≤ steps → listed (noted_line job all) (length history) i ≡ greedy_lines job i history
  noted_greedy zero h = none_listed
  noted_greedy (suc i) h =
      let e : suc i ≡ i + 1 = omega arith in
      ap (listed (noted_line job all) (length history)) e
      ∙ listed_more (noted_line job all) (length history) i
      ∙ ap2 (noted_greedy i (omega arith)) (line_there i h)
      ∙ sym (greedy_lines_more job i history)
    where
      ap2 : {a b : List (List ℕ)} {c d : List ℕ} → a ≡ b → c ≡ d → a ++ (c ∷ []) ≡ b ++ (d ∷ [])
      ap2 p q = rw (p, q)

-- All steps.
pub noted_all : (job : Job) (history : List Triple) (kept : ℕ)
    → header_behind job kept ++ noted_from job (finished job history) (length history) ≡ new_text job kept history
unfolding new_text noted_text finished
noted_all job history kept =
    let steps = job.modes - length history in
    let e : length (greedy job steps history) - length history ≡ steps = omega (arith, greedy_length job steps history) in
    rw e (ap (λ l. header_behind job kept ++ flat_map (λ line. line) l) (noted_greedy job history steps steps (omega arith)))

-- Room for all that is to be written is room for the header, and behind it for the lines.
module _ (job : Job) (own : List ℕ) (run : Run) (from kept room : ℕ) (text : TextFits job own run from kept room) where
  both_fit : length (header_behind job kept) + length (noted_from job (history_of run) from) ≤ room
  both_fit = omega (arith, text.fits, length-append (header_behind job kept) (noted_from job (history_of run) from))

  pub header_fits : length (header_behind job kept) ≤ room
  header_fits = omega (arith, both_fit)

  pub steps_fit : (at : ℕ) → at ≡ length (header_behind job kept) → StepsFit job own run from at room
  steps_fit at e =
      record {
        holds = text.holds;
        begun = text.begun;
        small = omega (arith, merges_within job own run text.holds, text.holds.few);
        fits = omega (arith, both_fit);
      }

-- A run at its end writes the new text.
module _ (job : Job) (history : List Triple) (from : ℕ) (run : Run) (ended : Ended job history from run) (kept : ℕ) where
  pub ended_text : noted_behind job kept (history_of run) from ≡ new_text job kept history
  ended_text = rw (ended.merges, ← ended.from_is) (noted_all job history kept)

  all_merges : length (history_of run) ≡ from + (job.modes - from)
  unfolding finished
  all_merges = rw (ended.merges, ← ended.from_is) (greedy_length job (job.modes - length history) history)

  pub ended_fits : (room : ℕ) → length (new_text job kept history) ≤ room → TextFits job ended.own run from kept room
  ended_fits room fits =
      record {
        holds = ended.holds;
        begun = omega (arith, all_merges);
        fits = rw ended_text fits;
      }
