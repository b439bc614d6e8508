-- The refusal decides which line is put, and there is room for any.
use native.Mathlib.Omega.{arith}
use Rattle.fields.specs.Texts.{spelt}
use Rattle.merging.specs.code.State.{history_of}
use Rattle.text.proofs.PrintedLines.{puts_none}
use Rattle.steering.proofs.ReasonTold.{line_puts, due_told, closed_told, weight_told, nothing_told}
use Rattle.steering.proofs.reasons.put_reason.Goals as goal

pub returns-in-StepNotNext : goal.returns-in-StepNotNext
returns-in-StepNotNext c job holds =
    let args = c.args in
    let put = c.put_value.ensures in
    rw (c.in-StepNotNext.is, due_told job (history_of args.run) args.triple c.in-StepNotNext.field-0, ← c.merges.ensures)
    (line_puts (spelt "due") c.merges.result args.out.now _ _ (omega (arith, put.value.1)) put.value.0 put.out_after)

pub returns-in-ChildNotOpen : goal.returns-in-ChildNotOpen
returns-in-ChildNotOpen c job holds =
    let args = c.args in
    let put = c.put_value-in-ChildNotOpen.ensures in
    rw (c.in-ChildNotOpen.is, closed_told job (history_of args.run) args.triple c.in-ChildNotOpen.field-0, ← c.first_closed.ensures job _ holds)
    (line_puts (spelt "closed") c.first_closed.result args.out.now _ _ (omega (arith, put.value.1)) put.value.0 put.out_after)

pub returns-in-WeightUntrue : goal.returns-in-WeightUntrue
returns-in-WeightUntrue c job holds =
    let args = c.args in
    let put = c.put_value-in-WeightUntrue.ensures in
    rw (c.in-WeightUntrue.is, weight_told job (history_of args.run) args.triple c.in-WeightUntrue.field-0, ← c.weight_of-weight.ensures job holds)
    (line_puts (spelt "weight") c.weight_of-weight.result args.out.now _ _ (omega (arith, put.value.1)) put.value.0 put.out_after)

pub returns-in_default : goal.returns-in_default
returns-in_default c job holds =
    let args = c.args in
    let told = c.in_default in
    rw (nothing_told job (history_of args.run) args.triple args.why told.not-StepNotNext told.not-ChildNotOpen told.not-WeightUntrue)
    (puts_none args.out.now)
