-- The largest so far and those ahead have the largest of all.
use Rattle.std.proofs.Common.{◌≡◌, List, map, ℕ, max, drop}
use Rattle.slots.specs.code.Promises.{Distances}
use Rattle.slots.specs.Nodes.{distance, largest}
use Rattle.slots.proofs.nodes.largest.Given as goal

abbrev pub invariant-loop-node : goal.invariant-loop-node
invariant-loop-node l =
    (table : List ℕ) → Distances l.modes table l.distances
    → max l.most (largest (map (distance table l.modes) (drop l.node-index l.left))) ≡ largest (map (distance table l.modes) l.left)
