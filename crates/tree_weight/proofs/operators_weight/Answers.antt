-- The places are filled once for the tree; the rows are then weighed one by one.
use Rattle.tree_weight.specs.code.Promises.{own_weight}
use Rattle.tree_weight.proofs.operators_weight.Goals as goal

pub returns : goal.returns
unfolding own_weight
returns c = c.rows_weight.ensures
