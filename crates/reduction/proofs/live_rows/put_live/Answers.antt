-- The rows gathered and those ahead that are there are all that are there; at the end nothing is ahead.
use native.Mathlib.Omega.{arith}
use Rattle.reduction.proofs.LiveRows.{gathering_starts, here_room, live_room, gathered_on, gathering_ends}
use Rattle.reduction.proofs.live_rows.put_live.Goals as goal

pub loop-place-init : goal.loop-place-init
loop-place-init c =
    gathering_starts c.args.count c.args.rows.now c.args.live.now c.requires.held c.requires.count_in_bounds

pub loop-place-preserved : goal.loop-place-preserved
loop-place-preserved c =
    let args = c.args in
    gathered_on args.count args.rows.now args.live.now c.requires.held c.requires.count_in_bounds _ _ _ c.loop-place.invariant
    c.loop-place-test.true _ _ c.gather_row-kept.ensures

pub returns : goal.returns
returns c =
    let args = c.args in
    gathering_ends args.count args.rows.now args.live.now c.requires.held c.requires.count_in_bounds _ _ _ c.loop-place.invariant (omega (arith, c.loop-place-test.false))
