-- The numbers of the whole line are what it says as a merge.
use Rattle.std.proofs.Common.{◌∙◌, sym}
use Rattle.fields.proofs.NumbersSaid.{plain_there, no_plain}
use Rattle.obeying.proofs.LineSaid.{merge_broken, merge_said}
use Rattle.obeying.proofs.merge_line.read_merge.Goals as goal

pub returns-in_err-step : goal.returns-in_err-step
returns-in_err-step c =
    let line = c.args.line.now in
    rw c.from_residual.ensures (sym (merge_broken line (no_plain 5 line (sym c.line_numbers.ensures ∙ c.in_err-step.was))))

pub returns : goal.returns
returns c =
    let line = c.args.line.now in
    let said = plain_there 5 line (sym c.line_numbers.ensures ∙ c.in_ok-step.was) in
    sym (merge_said line c.in_ok-step.field-0 said.0 said.1)
