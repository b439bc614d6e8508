-- The numbers of the whole line are what it says by hand, completed as of this run.
use Rattle.std.proofs.Common.{◌∙◌, ap, sym, Some}
use Rattle.fields.proofs.NumbersSaid.{plain_there, no_plain}
use Rattle.merging.specs.code.State.{history_of}
use Rattle.obeying.proofs.LineSaid.{hand_broken, hand_said}
use Rattle.obeying.proofs.by_hand.read_by_hand.Goals as goal

pub returns-in_err-x : goal.returns-in_err-x
returns-in_err-x c job holds =
    let line = c.args.line.now in
    rw c.from_residual.ensures
    (sym (hand_broken job (history_of c.args.run) line (no_plain 3 line (sym c.line_numbers.ensures ∙ c.in_err-x.was))))

pub returns : goal.returns
returns c job holds =
    let line = c.args.line.now in
    let said = plain_there 3 line (sym c.line_numbers.ensures ∙ c.in_ok-x.was) in
    ap Some (c.complete.ensures job holds) ∙ sym (hand_said job (history_of c.args.run) line c.in_ok-x.field-0 said.0 said.1)
