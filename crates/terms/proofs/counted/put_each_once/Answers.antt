-- The rows passed are work rows, and what stands behind them is as it was.
use mathlib.Core.Path.{◌≡◌}
use native.Mathlib.Omega.{arith}
use Rattle.terms.proofs.CountedRows.{spreading_starts, here_room, next_room, spreading_on}
use Rattle.terms.proofs.counted.put_each_once.Goals as goal

pub loop-place-init : goal.loop-place-init
loop-place-init c =
    let args = c.args in
    spreading_starts args.count args.terms.now args.rows.now

pub loop-place-preserved : goal.loop-place-preserved
loop-place-preserved c =
    let args = c.args in
    rw c.put_once.ensures
    (spreading_on args.count args.terms.now args.rows.now c.requires.given c.requires.count_in_bounds _ _ c.loop-place.invariant
    c.loop-place-test.true)
