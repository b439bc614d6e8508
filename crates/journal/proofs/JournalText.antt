-- The journal of lawful merges is obeyed to those merges, and is what the code writes of a run that has made them.
use mathlib.Core.Path.{◌≡◌, refl, ap, ◌∙◌}
use mathlib.Core.Bool.{true, false}
use mathlib.Core.List.{List, [], ◌∷◌, ◌++◌, flat_map}
use Prim.Native.Nat.{ℕ, zero, suc, ◌+◌, ◌-◌, ◌*◌, ◌<◌, ◌≤◌}
use native.Mathlib.Nat.{zero-add, sub-zero}
use native.Mathlib.Omega.{arith}
use lib.ListN.{length}
use Rattle.lists.specs.Members.{every}
use Rattle.lists.specs.Ranges.{listed}
use Rattle.lists.proofs.Every.{every_cons, every_append}
use Rattle.lists.proofs.Listed.{listed_more}
use Rattle.entities.specs.declared.Triple.{Triple}
use Rattle.fields.specs.Lines.{lines, is_line}
use Rattle.fields.proofs.LinesJoined.{lines_read_back}
use Rattle.terms.specs.Job.{Job}
use Rattle.history.specs.Lawful.{LawfulHistory}
use Rattle.history.specs.Choice.{weight_in}
use Rattle.history.proofs.Amounts.{newest_merge, older_merge}
use Rattle.history.proofs.RowsAfter.{weight_in_most}
use Rattle.obeying.specs.LineForms.{header_text}
use Rattle.obeying.specs.Obeying.{went, obeyed_lines, obeyed_texts, obeyed}
use Rattle.obeying.proofs.LineRead.{own_header}
use Rattle.obeying.proofs.LinesObeyed.{lines_on_lines}
use Rattle.journal.specs.Writing.{line_of, lines_of, journal_text}
use Rattle.journal.specs.code.NewLines.{noted_line, noted_text, noted_behind}
use Rattle.journal.proofs.TextLines.{header_is_line, merge_is_line}
use Rattle.journal.proofs.NotedLines.{header_first}
use Rattle.journal.proofs.ObeyGreedy.{line_obeyed}

module _ (job : Job) where
  are_lines : (history : List Triple) → every is_line (lines_of job history) ≡ true
  unfolding lines_of line_of every
  are_lines [] = refl
  are_lines (merge ∷ history) =
      every_append is_line (lines_of job history) (line_of job history merge ∷ []) (are_lines history)
      (every_cons is_line (line_of job history merge) [] (merge_is_line (length history) merge (weight_in job history merge)) refl)

  -- The lines of the journal are the header and those of the merges.
  pub journal_lines : (history : List Triple) → lines (journal_text job history) ≡ header_text job.rule job.modes (length job.terms) ∷ lines_of job history
  unfolding journal_text flat_map
  journal_lines history =
      let header = header_text job.rule job.modes (length job.terms) in
      lines_read_back (header ∷ lines_of job history)
      (every_cons is_line header (lines_of job history) (header_is_line job.rule job.modes (length job.terms)) (are_lines history))

  module _ (few : 3 * job.modes ≤ 65535) (light : length job.terms ≤ 65535) where
    lines_obeyed : (history : List Triple) → LawfulHistory job.modes history → length history ≤ job.modes
        → obeyed_lines false job (went []) (lines_of job history) ≡ went history
    unfolding lines_of obeyed_lines
    lines_obeyed [] lawful h = refl
    lines_obeyed (merge ∷ history) lawful h =
        lines_on_lines false job (went []) (lines_of job history) (line_of job history merge ∷ [])
        ∙ rw (lines_obeyed history lawful.1 (omega arith))
        (line_obeyed job few history merge (omega arith) lawful.0 (omega (arith, weight_in_most job history merge)))

    pub journal_obeyed : (history : List Triple) → LawfulHistory job.modes history → length history ≤ job.modes
        → obeyed job (journal_text job history) ≡ went history
    unfolding obeyed obeyed_texts
    journal_obeyed history lawful h =
        ap (obeyed_texts job) (journal_lines history)
        ∙ rw (own_header job (omega arith) (omega arith)) (lines_obeyed history lawful h)

  -- What the code notes of a run's merges are their lines.
  older_line : (merge : Triple) (history : List Triple) (step : ℕ) → step < length history
      → noted_line job (merge ∷ history) step ≡ noted_line job history step
  unfolding noted_line
  older_line merge history step h =
      let e : suc (length history) - step ≡ suc (length history - step) = omega arith in
      rw (e, older_merge merge history step h)

  older_lines : (merge : Triple) (history : List Triple) (from count : ℕ) → from + count ≤ length history
      → listed (noted_line job (merge ∷ history)) from count ≡ listed (noted_line job history) from count
  unfolding listed
  older_lines merge history from zero h = refl
  older_lines merge history from (suc count) h =
      rw (older_line merge history from (omega arith), older_lines merge history (suc from) count (omega arith))

  newest_line : (merge : Triple) (history : List Triple) → noted_line job (merge ∷ history) (length history) ≡ line_of job history merge
  unfolding noted_line
  newest_line merge history =
      let e : suc (length history) - length history ≡ 1 = omega arith in
      rw (e, newest_merge merge history (length history) refl)

  noted_lines : (history : List Triple) → listed (noted_line job history) 0 (length history) ≡ lines_of job history
  unfolding lines_of listed
  noted_lines [] = refl
  noted_lines (merge ∷ history) =
      let e : suc (length history) ≡ length history + 1 = omega arith in
      ap (listed (noted_line job (merge ∷ history)) 0) e
      ∙ listed_more (noted_line job (merge ∷ history)) 0 (length history)
      ∙ rw (zero-add (length history), newest_line merge history)
      (ap (λ l. l ++ (line_of job history merge ∷ []))
      (older_lines merge history 0 (length history) (omega arith) ∙ noted_lines history))

  pub journal_noted : (history : List Triple) → noted_behind job 0 history 0 ≡ journal_text job history
  unfolding noted_text journal_text
  journal_noted history = rw (header_first job 0 refl, sub-zero (length history), noted_lines history)
