-- A first line opens with its word; the number read behind it tells what it says.
use Rattle.std.proofs.Common.{◌∙◌, sym}
use Rattle.fields.proofs.NumbersSaid.{line_there, no_line}
use Rattle.terms_text.proofs.LineWords.{modes_broken, modes_told}
use Rattle.terms_text.proofs.read_modes.Goals as goal

pub returns-in_err-modes : goal.returns-in_err-modes
returns-in_err-modes c =
    let line = c.args.line.now in
    rw c.from_residual.ensures (sym (modes_broken line (no_line 1 _ line (sym c.line_numbers.ensures ∙ c.in_err-modes.was))))

pub returns : goal.returns
returns c =
    let line = c.args.line.now in
    let said = line_there 1 _ line (sym c.line_numbers.ensures ∙ c.in_ok-modes.was) in
    sym (modes_told line c.in_ok-modes.field-0 said.0 said.1)
