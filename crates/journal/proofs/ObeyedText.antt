-- A line that was obeyed stands in the text exactly as a run would write it.
use mathlib.Core.Path.{◌≡◌}
use mathlib.Core.List.{List, []}
use Prim.Native.Nat.{ℕ, suc, ◌-◌, ◌<◌}
use native.Mathlib.Omega.{arith}
use lib.ListN.{length, get_or, length-drop}
use Rattle.lists.proofs.Every.{every_at}
use Rattle.entities.specs.declared.Triple.{Triple}
use Rattle.fields.specs.Lines.{lines, is_line}
use Rattle.fields.proofs.LinesJoined.{lines_are_lines, line_ends}
use Rattle.terms.specs.Job.{Job}
use Rattle.history.specs.History.{merge_of, history_before}
use Rattle.history.specs.Choice.{weight_in}
use Rattle.obeying.specs.LineForms.{header_text}
use Rattle.obeying.specs.Obeying.{went, obeyed}
use Rattle.journal.specs.Writing.{line_of}
use Rattle.obeying.proofs.LineRead.{header_written, merge_written}
use Rattle.obeying.proofs.Obedience.{obedient}

module _ (job : Job) (bytes : List ℕ) (history : List Triple) (e : obeyed job bytes ≡ went history) where
  ends_well : (i : ℕ) → i < length (lines bytes) → get_or (get_or (lines bytes) i []) (length (get_or (lines bytes) i []) - 1) 0 ≡ 10
  ends_well i h = line_ends (get_or (lines bytes) i []) (every_at is_line (lines bytes) i [] h (lines_are_lines bytes))

  pub header_stands : 0 < length (lines bytes) → get_or (lines bytes) 0 [] ≡ header_text job.rule job.modes (length job.terms)
  header_stands some =
      header_written (get_or (lines bytes) 0 []) job.rule job.modes (length job.terms) (ends_well 0 some) ((obedient job bytes history e).header some)

  pub merge_stands : (i : ℕ) → i < length history
      → get_or (lines bytes) (suc i) [] ≡ line_of job (history_before history i) (merge_of history i)
  unfolding line_of
  merge_stands i h =
      let says = obedient job bytes history e in
      let merge = merge_of history i in
      let before = history_before history i in
      let step : length before ≡ i = omega (arith, length-drop (length history - i) history) in
      rw step
      (merge_written (get_or (lines bytes) (suc i) [])
      (record { step = i; triple = merge; weight = weight_in job before merge }) (says.says i h)
      (ends_well (suc i) (omega (arith, says.a_line_each))))
