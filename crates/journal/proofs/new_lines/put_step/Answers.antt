-- The line is written over the front of what is left.
use mathlib.Core.Path.{◌≡◌, ap}
use mathlib.Core.List.{List}
use Prim.Native.Nat.{ℕ}
use native.Mathlib.Omega.{arith}
use lib.ListN.{length, length-drop}
use Rattle.lists.proofs.Steps.{part_to_end}
use Rattle.lists.proofs.Behind.{rest_written}
use Rattle.terms.specs.Job.{Job}
use Rattle.merging.specs.code.State.{history_of}
use Rattle.obeying.specs.LineForms.{merge_text}
use Rattle.journal.specs.code.NewLines.{noted_line, StepFits}
use Rattle.journal.proofs.NotedLines.{noted_as}
use Rattle.journal.proofs.new_lines.put_step.Goals as goal
use Rattle.journal.proofs.new_lines.put_step.Goals.{After-step_weight-weight}

-- What the run was asked makes the step's line, whatever the job.
line_is : (c : After-step_weight-weight) (job : Job) (own : List ℕ)
    → StepFits job own c.args.run c.args.step c.args.at (length c.args.journal.now)
    → merge_text c.args.step c.merge_of-triple.result c.step_weight-weight.result
    ≡ noted_line job (history_of c.args.run) c.args.step
line_is c job own fits =
    noted_as job (history_of c.args.run) c.args.step _ _ fits.made c.merge_of-triple.ensures
    (c.step_weight-weight.ensures job own fits.holds)

pub put_merge-requires : goal.put_merge-requires
put_merge-requires c =
    let pre = c.requires in
    let journal = c.args.journal.now in
    let at = c.args.at in
    rw (part_to_end journal at, length-drop at journal, line_is (goal.at.put_merge-requires c).After-step_weight-weight pre.0 pre.1.0 pre.1.1) (omega (arith, pre.1.1.fits))

pub overflow_add-result : goal.overflow_add-result
overflow_add-result c =
    let pre = c.requires in
    omega (arith, pre.1.1.fits, c.put_merge.ensures.value, ap length (line_is (goal.at.overflow_add-result c).After-step_weight-weight pre.0 pre.1.0 pre.1.1))

pub returns : goal.returns
returns c job own fits =
    let args = c.args in
    let put = c.put_merge.ensures in
    let line = line_is (goal.at.returns c).After-step_weight-weight job own fits in
    let written = rest_written args.at (noted_line job (history_of args.run) args.step) args.journal.now (omega (arith, fits.fits)) in
    (rw (put.value, line), rw (put.out_after, line) written)
