-- The walk of WalkedRow, index by index; its end is the row, or zeros where nothing is left.
use Rattle.tree_weight.proofs.WalkedRow.{Walking}
use Rattle.tree_weight.proofs.operators.surviving_row.Given as goal

abbrev pub invariant-loop-index : goal.invariant-loop-index
invariant-loop-index l = Walking l.term l.row l.count l.index-index
