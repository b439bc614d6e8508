-- The nodes gathered and those ahead are all with the largest distance.
use Rattle.std.proofs.Common.{◌≡◌, List, ◌++◌, ℕ, ◌≤◌, take, drop, eqb}
use Rattle.lists.specs.Members.{keep}
use Rattle.slots.specs.code.Promises.{Distances}
use Rattle.slots.specs.Nodes.{distance}
use Rattle.slots.proofs.nodes.fill_far.Given as goal

abbrev pub invariant-loop-node : goal.invariant-loop-node
invariant-loop-node l = (l.count ≤ l.node-index) × ((table : List ℕ) → Distances l.modes table l.distances → take l.count l.far ++ keep (λ v. eqb (distance table l.modes v) l.most) (drop l.node-index l.left) ≡ keep (λ v. eqb (distance table l.modes v) l.most) l.left)
