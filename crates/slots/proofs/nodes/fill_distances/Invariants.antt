-- Each node passed has its distance.
use Rattle.std.proofs.Common.{◌≡◌, ℕ, ◌<◌, get_or}
use Rattle.slots.specs.Nodes.{distance}
use Rattle.slots.proofs.nodes.fill_distances.Given as goal

abbrev pub invariant-loop-node : goal.invariant-loop-node
invariant-loop-node l = (k : ℕ) → k < l.node → get_or l.distances k 0 ≡ distance l.tree l.modes k
