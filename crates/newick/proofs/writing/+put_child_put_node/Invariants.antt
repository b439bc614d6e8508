-- The remaining height falls at each call, so the measure is twice the height, and one more for a node, whose children have the same height.
use Rattle.std.proofs.Common.{◌+◌, ◌*◌}
use Rattle.newick.proofs.writing.+put_child_put_node.Given as goal

abbrev pub decreases-put_child : goal.decreases-put_child
decreases-put_child l = 2 * l.height

abbrev pub decreases-put_node : goal.decreases-put_node
decreases-put_node l = 2 * l.height + 1
