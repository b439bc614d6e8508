-- The largest so far and those ahead have the largest of all.
use Rattle.std.proofs.Common.{arith, max, ◌≡◌}
use Rattle.lists.proofs.Every.{below_at}
use Rattle.slots.specs.Nodes.{distance}
use Rattle.slots.proofs.DistanceSteps.{largest_step, largest_end}
use Rattle.slots.proofs.nodes.largest.Goals as goal

pub distance_at-requires : goal.distance_at-requires
distance_at-requires c =
    let low = below_at c.args.modes c.args.left.now c.loop-node.node-index 0 (omega arith) c.requires.left_value in
    (c.requires.modes_in_bounds, low)

pub loop-node-preserved : goal.loop-node-preserved
loop-node-preserved c =
    let args = c.args in
    λ table are.
    (let inv = c.loop-node.invariant table are in
    let far = c.distance_at.ensures table are in
    let step = largest_step (distance table args.modes) args.left.now c.loop-node.node-index (omega arith) in
    let e : c.max-most.result ≡ max c.loop-node.most c.distance_at.result = grind arith in
    omega arith)

pub returns : goal.returns
returns c =
    let args = c.args in
    λ table are.
    (let inv = c.loop-node.invariant table are in
    let done = largest_end (distance table args.modes) args.left.now c.loop-node.node-index (omega arith) in
    omega arith)
