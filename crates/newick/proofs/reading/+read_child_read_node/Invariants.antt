-- A child at a height goes on to a node at the same height, whose children are read at the height below: so twice the height falls at each
-- call, with one more for a child.
use Rattle.std.proofs.Common.{◌+◌, ◌*◌}
use Rattle.newick.proofs.reading.+read_child_read_node.Given as goal

abbrev pub decreases-read_child : goal.decreases-read_child
decreases-read_child l = 2 * l.height + 1

abbrev pub decreases-read_node : goal.decreases-read_node
decreases-read_node l = 2 * l.height
