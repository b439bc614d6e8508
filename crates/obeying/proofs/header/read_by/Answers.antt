-- A header opens with its rule's word and the version; the two numbers read behind them tell what it says.
use Rattle.std.proofs.Common.{◌∙◌, sym, None}
use Rattle.fields.proofs.NumbersSaid.{line_there, no_line}
use Rattle.obeying.specs.code.Openings.{header_opening}
use Rattle.obeying.proofs.LineSaid.{header_broken, header_said}
use Rattle.obeying.proofs.header.read_by.Goals as goal

pub returns-in_err-modes : goal.returns-in_err-modes
returns-in_err-modes c =
    let args = c.args in
    let none = no_line 2 (header_opening args.rule) args.line.now (rw c.requires at (sym c.line_numbers.ensures ∙ c.in_err-modes.was)) in
    rw c.from_residual.ensures (sym (header_broken args.rule args.line.now None none))

pub returns : goal.returns
returns c =
    let args = c.args in
    let said = line_there 2 (header_opening args.rule) args.line.now (rw c.requires at (sym c.line_numbers.ensures ∙ c.in_ok-modes.was)) in
    sym (header_said args.rule args.line.now None c.in_ok-modes.field-0 said.0 said.1)
