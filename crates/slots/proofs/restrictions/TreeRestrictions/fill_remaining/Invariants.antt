-- The nodes gathered and those ahead are all that remain.
use Rattle.std.proofs.Common.{◌++◌, not, ◌≡◌, ◌≤◌, ◌-◌, take}
use Rattle.lists.specs.Ranges.{listed}
use Rattle.lists.specs.Members.{keep}
use Rattle.slots.specs.Nodes.{complete, remaining}
use Rattle.slots.proofs.restrictions.TreeRestrictions.fill_remaining.Given as goal

abbrev pub invariant-loop-node : goal.invariant-loop-node
invariant-loop-node l = (l.count ≤ l.node) × (take l.count l.left ++ keep (λ v. not (complete l.self.modes l.self.tree.now l.self.assigned.now v)) (listed (λ v. v) l.node (l.self.modes - l.node)) ≡ remaining l.self.modes l.self.tree.now l.self.assigned.now)
