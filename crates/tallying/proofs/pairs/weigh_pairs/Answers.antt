-- Row by row, as in PairsWeighed; then what stands for the rows' number is taken off.
use native.Mathlib.Omega.{arith}
use Rattle.tallying.proofs.PairsWeighed.{weighing_on, weighing_fits, weighing_ends}
use Rattle.tallying.proofs.pairs.weigh_pairs.Goals as goal

pub loop-place-preserved : goal.loop-place-preserved
loop-place-preserved c =
    let args = c.args in
    weighing_on args.gathered.now.count args.gathered.now.rows.now args.z _ _ _ _ c.loop-place.invariant (omega arith) _ _
    (rw c.term_at.ensures at c.weigh_row-odd.ensures)

pub lift-requires : goal.lift-requires
lift-requires c =
    weighing_fits c.args.gathered.now.count c.args.gathered.now.rows.now c.args.z _ _ _ _ c.loop-place.invariant (omega arith) (omega arith)

pub returns : goal.returns
returns c =
    let args = c.args in
    weighing_ends args.gathered.now.count args.gathered.now.rows.now args.z _ _ _ _ c.loop-place.invariant (omega arith) _ c.lift.ensures
