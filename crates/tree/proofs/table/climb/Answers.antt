-- The steps left from here arrive where all of them do.
use Rattle.std.proofs.Common.{◌≡◌, ◌∙◌, sym, suc, ◌+◌, ◌-◌, arith}
use Rattle.tree.specs.Table.{climb}
use Rattle.tree.proofs.TableSteps.{climb_rests}
use Rattle.tree.proofs.table.climb.Goals as goal

pub returns-then-above-at : goal.returns-then-above-at
returns-then-above-at c =
    sym (c.loop.invariant ∙ climb_rests c.args.table.now (c.args.steps - c.loop.counter) c.loop.at (sym c.parent_of-above.ensures ∙ c.if-above-at.true))

pub loop-preserved : goal.loop-preserved
unfolding climb
loop-preserved c =
    let more : c.args.steps - c.loop.counter ≡ suc (c.args.steps - (c.loop.counter + 1)) = omega arith in
    rw c.parent_of-above.ensures (rw more at c.loop.invariant)

pub returns : goal.returns
unfolding climb
returns c =
    let none : c.args.steps - c.loop.counter ≡ 0 = omega arith in
    sym (rw none at c.loop.invariant)
