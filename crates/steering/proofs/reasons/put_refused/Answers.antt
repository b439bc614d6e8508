-- The line at the place of the refusal is read once more.
use mathlib.Core.Path.{sym, ◌∙◌}
use Rattle.steering.specs.Reasons.{reason_said, reason_in}
use Rattle.text.proofs.PrintedLines.{puts_none}
use Rattle.steering.proofs.reasons.put_refused.Goals as goal

pub returns-in-Some : goal.returns-in-Some
unfolding reason_in reason_said
returns-in-Some c job holds =
    let line = c.line_at-line.ensures in
    let place = c.place.ensures in
    rw (← place, ← line, sym c.read_merge.ensures ∙ c.in-Some.is)
    (c.put_reason.ensures job holds)

pub returns-in-None : goal.returns-in-None
unfolding reason_in reason_said
returns-in-None c job holds =
    let args = c.args in
    let line = c.line_at-line.ensures in
    let place = c.place.ensures in
    rw (← place, ← line, sym c.read_merge.ensures ∙ c.in-None.is) (puts_none args.out.now)
