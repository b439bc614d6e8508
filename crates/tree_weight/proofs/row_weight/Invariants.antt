-- The weight at the nodes passed and at those ahead is the weight at all.
use Rattle.std.proofs.Common.{◌≡◌, map, ◌≤◌, ◌-◌, ◌+◌}
use Rattle.lists.specs.Counting.{sum as total}
use Rattle.lists.specs.Ranges.{listed}
use Rattle.tree_weight.specs.Weight.{node_weight, row_weight}
use Rattle.tree_weight.proofs.row_weight.Given as goal

abbrev pub invariant-loop-node : goal.invariant-loop-node
invariant-loop-node l = (l.sum ≤ l.node)
    × (l.sum + total (map (node_weight l.placed.modes l.placed.tree.now l.term) (listed (λ v. v) l.node (l.placed.modes - l.node))) ≡ row_weight l.placed.modes l.placed.tree.now l.term)
