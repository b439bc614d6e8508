-- A line that is too short doesn't open so, and in a longer one the front decides.
use mathlib.Core.Path.{sym, ◌∙◌}
use native.Mathlib.Omega.{arith}
use lib.Seq.{length-take-le}
use Rattle.lists.proofs.Standard.{alike_is}
use Rattle.fields.proofs.Openings.{closed_short, opens_alike}
use Rattle.fields.proofs.numbers.opens.Goals as goal

pub returns-then-line-front : goal.returns-then-line-front
returns-then-line-front c =
    let args = c.args in
    sym (closed_short args.opening.now args.line.now c.if-line-front.true)

pub slice_bounds-eq-end : goal.slice_bounds-eq-end
slice_bounds-eq-end c =
    let args = c.args in
    sym (length-take-le _ args.line.now (omega arith))

pub returns : goal.returns
returns c =
    let args = c.args in
    c.eq.ensures ∙ sym (alike_is _ args.opening.now) ∙ sym (opens_alike args.opening.now args.line.now (omega arith))
