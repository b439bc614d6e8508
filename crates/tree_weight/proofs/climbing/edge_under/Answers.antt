-- The steps left from here find the edge that all of them do; each place read is the code's.
use Rattle.std.proofs.Common.{◌≡◌, ◌∙◌, sym, suc, ◌+◌, ◌-◌, arith}
use Rattle.tree_weight.specs.Weight.{edge_under}
use Rattle.tree_weight.proofs.TreeWeighing.{edge_none, edge_here, edge_above}
use Rattle.tree_weight.proofs.climbing.edge_under.Goals as goal

pub returns-then-tree-place : goal.returns-then-tree-place
returns-then-tree-place c =
    let args = c.args in
    let left = args.steps - (c.loop.counter + 1) in
    let more : args.steps - c.loop.counter ≡ suc left = omega arith in
    let place = c.requires.places.each c.loop.at (omega arith) in
    sym (rw more at c.loop.invariant.1 ∙ edge_none args.tree.now left args.node c.loop.at (omega arith))

pub returns-then-at-node : goal.returns-then-at-node
returns-then-at-node c =
    let args = c.args in
    let left = args.steps - (c.loop.counter + 1) in
    let more : args.steps - c.loop.counter ≡ suc left = omega arith in
    let place = c.requires.places.each c.loop.at (omega arith) in
    let e = rw more at c.loop.invariant.1 ∙ edge_here args.tree.now left args.node c.loop.at (omega arith) (rw place at c.if-at-node.true) in
    rw place (sym e)

pub loop-preserved : goal.loop-preserved
loop-preserved c =
    let args = c.args in
    let left = args.steps - (c.loop.counter + 1) in
    let more : args.steps - c.loop.counter ≡ suc left = omega arith in
    let place = c.requires.places.each c.loop.at (omega arith) in
    let e = rw more at c.loop.invariant.1 ∙ edge_above args.tree.now left args.node c.loop.at (omega arith) (rw place at c.if-at-node.false) in
    (omega arith, rw place e)

pub returns : goal.returns
unfolding edge_under
returns c =
    let none : c.args.steps - c.loop.counter ≡ 0 = omega arith in
    sym (rw none at c.loop.invariant.1)
