-- Each way out is one law of what stands at the place and behind it.
use mathlib.Core.Path.{sym}
use native.Mathlib.Omega.{arith}
use Rattle.nodes_text.proofs.CodeFields.{dash_none, dash_other, dash_last, dash_then}
use Rattle.nodes_text.proofs.code_fields.is_dash.Goals as goal

pub returns-then-text-at : goal.returns-then-text-at
returns-then-text-at c =
    let args = c.args in
    sym (dash_none args.text.now args.at c.if-text-at.true)

pub returns-then-text-at-ne45 : goal.returns-then-text-at-ne45
returns-then-text-at-ne45 c =
    let args = c.args in
    sym (dash_other args.text.now args.at (omega arith) c.if-text-at-ne45.true)

pub returns-then-text-end : goal.returns-then-text-end
returns-then-text-end c =
    let args = c.args in
    sym (dash_last args.text.now args.at (omega arith) c.if-text-at-ne45.false c.if-text-end.true)

pub returns : goal.returns
returns c =
    let args = c.args in
    sym (dash_then args.text.now args.at (omega arith) c.if-text-at-ne45.false (omega arith))
