-- The rows passed are tallied; the bound leaves the couple, or all rows are passed.
use Prim.Native.Nat.{◌+◌, ◌/◌, ◌%◌}
use native.Mathlib.Omega.{arith}
use lib.ListN.{length}
use Rattle.tallying.proofs.RowsTallied.{Tallying, tallied_on, tallying_ends}
use Rattle.tallying.proofs.tally.tally_couple.Goals as goal
use Rattle.tallying.proofs.tally.tally_couple.Goals.{After-slice_known-in-loop-place-1}

one_more : (c : After-slice_known-in-loop-place-1)
    → (let args = c.args in
    Tallying args.gathered.now.count args.gathered.now.rows.now args.x args.y (length c.fill.new.self) c.tally_row-odd.new.less
    (c.loop-place.all + (c.tally_row-odd.result + 1) / 2) (c.loop-place.apart + c.tally_row-odd.result % 2) (c.loop-place.place + 1))
one_more c =
    let args = c.args in
    tallied_on args.gathered.now.count args.gathered.now.rows.now args.x args.y _ _ _ _ _ c.loop-place.invariant (omega arith) _ _
    (rw c.term_at.ensures at c.tally_row-odd.ensures)

pub returns-then-limit-apart : goal.returns-then-limit-apart
returns-then-limit-apart c z = omega (arith, (one_more (goal.at.returns-then-limit-apart c).After-slice_known-in-loop-place-1).bound z)

pub loop-place-preserved : goal.loop-place-preserved
loop-place-preserved c = one_more (goal.at.loop-place-preserved c).After-slice_known-in-loop-place-1

pub returns : goal.returns
returns c =
    let args = c.args in
    let done = tallying_ends args.gathered.now.count args.gathered.now.rows.now args.x args.y _ _ _ _ _ c.loop-place.invariant (omega arith) in
    (done.0, λ z h. done.1 z (omega (arith, c.loop-place.invariant.same_length)), done.2)
