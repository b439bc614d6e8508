-- What a line says is what its merge is judged, where there is a step left and the form is kept.
use Rattle.std.specs.Prelude.{Some, None}
use mathlib.Core.Path.{◌≡◌, ◌∙◌, sym}
use Prim.Native.Nat.{◌<◌, ◌≤◌}
use native.Mathlib.Omega.{arith}
use lib.ListN.{length}
use Rattle.terms.specs.Job.{Job}
use Rattle.merging.specs.code.Runs.{Holds}
use Rattle.merging.specs.code.State.{history_of}
use Rattle.refusal.specs.declared.Refusal.TheVariants.{LineForm}
use Rattle.refusal.proofs.Told.{handed_on}
use Rattle.obeying.proofs.LineJudged.{after_last, line_broken, line_says}
use Rattle.obeying.proofs.judging.judge_line.Goals as goal
use Rattle.obeying.proofs.judging.judge_line.Goals.{Else-modes-merges}

-- A step is left.
one_left : (c : Else-modes-merges) (job : Job) → Holds job c.args.rows.now c.args.run
    → length (history_of c.args.run) < job.modes
one_left c job holds = omega (arith, c.modes.ensures job _ holds, c.if-modes-merges.false, c.merges.ensures)

pub returns-then-modes-merges : goal.returns-then-modes-merges
returns-then-modes-merges c job holds =
    let args = c.args in
    let none_left : job.modes ≤ length (history_of args.run) = omega (arith, c.modes.ensures job _ holds, c.if-modes-merges.true, c.merges.ensures) in
    rw c.line_after-line.ensures (after_last args.by_hand job (history_of args.run) args.bytes.now none_left)

pub returns : goal.returns
returns c job holds =
    let args = c.args in
    let said : c.read_said.result ≡ Some c.in_ok-said.said = grind arith in
    c.judge_merge.ensures job holds
    ∙ line_says args.by_hand job (history_of args.run) args.bytes.now (one_left (goal.at.returns c).Else-modes-merges job holds) _
    (sym (c.read_said.ensures job holds) ∙ said)

pub returns-in_err-said : goal.returns-in_err-said
returns-in_err-said c job holds =
    let args = c.args in
    let none : c.read_said.result ≡ None = grind arith in
    let why : c.in_err-said.field-0.0 ≡ LineForm c.line_after-line.result = grind arith in
    rw (handed_on c.from_residual.ensures, why, c.line_after-line.ensures)
    (line_broken args.by_hand job (history_of args.run) args.bytes.now (one_left (goal.at.returns-in_err-said c).Else-modes-merges job holds)
    (sym (c.read_said.ensures job holds) ∙ none))
