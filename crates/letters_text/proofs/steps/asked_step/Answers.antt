-- The word is read as one number, and that is compared with the modes.
use Rattle.std.proofs.Common.{◌∙◌, sym}
use native.Mathlib.Omega.{arith}
use Rattle.fields.proofs.NumbersSaid.{numbers_there, no_numbers}
use Rattle.letters_text.proofs.StepWord.{no_number, beyond_last, a_step}
use Rattle.letters_text.proofs.steps.asked_step.Goals as goal

pub returns-in_err-number : goal.returns-in_err-number
returns-in_err-number c =
    let args = c.args in
    rw c.from_residual.ensures
    (no_number args.word.now args.modes (no_numbers 1 _ (sym c.numbers_of.ensures ∙ c.in_err-number.was)))

pub returns-then-modes-step : goal.returns-then-modes-step
returns-then-modes-step c =
    let args = c.args in
    let said = numbers_there 1 _ (sym c.numbers_of.ensures ∙ c.in_ok-number.was) in
    beyond_last args.word.now args.modes c.in_ok-number.field-0 said.0 said.1 (omega arith)

pub returns : goal.returns
returns c =
    let args = c.args in
    let said = numbers_there 1 _ (sym c.numbers_of.ensures ∙ c.in_ok-number.was) in
    rw c.from-step.ensures (a_step args.word.now args.modes c.in_ok-number.field-0 said.0 said.1 (omega arith))
