-- Each count and what is ahead of it make all the edges of its kind; at the end the three counts decide the letter.
use Rattle.std.proofs.Common.{◌≡◌, ◌≤◌, ◌+◌, drop}
use Rattle.lists.specs.Counting.{occurrences}
use Rattle.tree_weight.specs.Weight.{edges}
use Rattle.tree_weight.proofs.node_letter.Given as goal

abbrev pub invariant-loop-index : goal.invariant-loop-index
invariant-loop-index l = (l.xs ≤ l.index-index)
    × (l.ys ≤ l.index-index)
    × (l.zs ≤ l.index-index)
    × (l.xs + occurrences 0 (edges l.placed.modes l.placed.tree.now l.node (drop l.index-index l.term)) ≡ occurrences 0 (edges l.placed.modes l.placed.tree.now l.node l.term))
    × (l.ys + occurrences 1 (edges l.placed.modes l.placed.tree.now l.node (drop l.index-index l.term)) ≡ occurrences 1 (edges l.placed.modes l.placed.tree.now l.node l.term))
    × (l.zs + occurrences 2 (edges l.placed.modes l.placed.tree.now l.node (drop l.index-index l.term)) ≡ occurrences 2 (edges l.placed.modes l.placed.tree.now l.node l.term))
