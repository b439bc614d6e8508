-- What the lines ahead come to stays the answer; each line that is fine takes one from them.
use Rattle.refusal.proofs.Told.{handed_on}
use Rattle.obeying.proofs.LinesObeyed.{along_ends, along_goes, along_stops}
use Rattle.obeying.proofs.obey_lines.Goals as goal

pub returns-in_err-obey_line : goal.returns-in_err-obey_line
returns-in_err-obey_line c job holds =
    let obeyed = c.obey_line in
    let along = c.loop-line.invariant job holds in
    rw (handed_on c.from_residual.ensures)
    (along_stops c.args.by_hand job c.args.rows.now _ c.loop-line.run c.loop-line.rows _ _
    (rw c.in-Some.ensures.steps at along) obeyed.new.rows obeyed.new.run _ (rw c.in_err-obey_line.was at (obeyed.ensures job along.so_far.holds)))

pub loop-line-preserved : goal.loop-line-preserved
loop-line-preserved c job holds =
    let obeyed = c.obey_line in
    let along = c.loop-line.invariant job holds in
    along_goes c.args.by_hand job c.args.rows.now _ c.loop-line.run c.loop-line.rows _ _
    (rw c.in-Some.ensures.steps at along) obeyed.new.rows obeyed.new.run (rw c.in_ok-obey_line.was at (obeyed.ensures job along.so_far.holds))

pub returns : goal.returns
returns c job holds =
    along_ends c.args.by_hand job c.args.rows.now _ c.loop-line.run c.loop-line.rows
    (rw c.in-None.ensures.steps.0 at (c.loop-line.invariant job holds))
