-- The steps taken and those left from here are all.
use Rattle.std.proofs.Common.{◌-◌, arith}
use native.Mathlib.Nat.{sub-zero}
use Rattle.slots.proofs.DistanceSteps.{distance_none, distance_above, distance_end}
use Rattle.slots.proofs.nodes.distance.Goals as goal

pub loop-up-init : goal.loop-up-init
loop-up-init c = rw sub-zero (omega arith)

pub returns-then-tree-place : goal.returns-then-tree-place
returns-then-tree-place c =
    let args = c.args in
    let e = distance_none args.tree.now (args.steps - c.loop-up.up) c.loop-up.at (rw (← c.place_of-place.ensures) c.if-tree-place.true) in
    omega arith

pub loop-up-preserved : goal.loop-up-preserved
loop-up-preserved c =
    let args = c.args in
    let e = distance_above args.tree.now args.steps c.loop-up.up c.loop-up.at c.place_of-place.result (omega arith) c.place_of-place.ensures (omega arith) in
    omega arith

pub returns : goal.returns
returns c =
    let args = c.args in
    let e = distance_end args.tree.now args.steps c.loop-up.up c.loop-up.at (omega arith) in
    omega arith
