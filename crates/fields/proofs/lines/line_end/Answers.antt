-- The first LF ends the line; without one there is none.
use Rattle.std.proofs.Common.{◌+◌, ◌≤◌, arith, drop, length, length-drop, length-take-le}
use Rattle.std.proofs.lemmas.List.{take_rest}
use Rattle.fields.specs.Lines.{first_line}
use Rattle.fields.proofs.LineSteps.{feed_found}
use Rattle.fields.proofs.lines.line_end.Goals as goal

pub returns-in-Some : goal.returns-in-Some
unfolding first_line
returns-in-Some c =
    let rest = drop c.args.from c.args.bytes.now in
    let h = rw c.in-Some.is at (feed_found rest c.first_feed.result (rw take_rest at c.first_feed.ensures)) in
    let long : c.in-Some.before + 1 ≤ length rest = omega arith in
    rw (h.1, length-take-le (c.in-Some.before + 1) rest long) (omega (arith, length-drop c.args.from c.args.bytes.now))

pub returns-in-None : goal.returns-in-None
unfolding first_line
returns-in-None c =
    let rest = drop c.args.from c.args.bytes.now in
    let h = rw c.in-None.is at (feed_found rest c.first_feed.result (rw take_rest at c.first_feed.ensures)) in
    rw h (omega arith)
