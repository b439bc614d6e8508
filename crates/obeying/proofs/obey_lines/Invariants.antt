-- What the lines ahead come to stays the answer; each line that is fine takes one from them.
use Rattle.fields.specs.Lines.{lines}
use Rattle.fields.specs.code.LinesLeft.{lines_left}
use Rattle.terms.specs.Job.{Job}
use Rattle.merging.specs.code.State.{history_of}
use Rattle.merging.specs.code.Runs.{Holds}
use Rattle.obeying.specs.Obeying.{went, obeyed_lines}
use Rattle.obeying.proofs.LinesObeyed.{Along}
use Rattle.obeying.proofs.obey_lines.Given as goal

abbrev pub invariant-loop-line : goal.invariant-loop-line
invariant-loop-line l =
    (job : Job) → Holds job l.initial.rows l.initial.run
    → Along l.by_hand job l.initial.rows (obeyed_lines l.by_hand job (went (history_of l.initial.run)) (lines l.read)) l.run l.rows (lines_left l.line-iterator)
