-- The steps taken and those left from here are all.
use Rattle.std.proofs.Common.{◌≡◌, ◌+◌, ◌-◌}
use Rattle.slots.specs.Nodes.{distance}
use Rattle.slots.proofs.nodes.distance.Given as goal

abbrev pub invariant-loop-up : goal.invariant-loop-up
invariant-loop-up l = l.up + distance l.tree (l.steps - l.up) l.at ≡ distance l.tree l.steps l.node
