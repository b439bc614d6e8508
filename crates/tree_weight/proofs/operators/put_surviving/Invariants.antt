-- Row behind row, as in SurvivingRows.
use Rattle.tree_weight.proofs.SurvivingRows.{Putting}
use Rattle.tree_weight.proofs.operators.put_surviving.Given as goal

abbrev pub invariant-loop-place : goal.invariant-loop-place
invariant-loop-place l = Putting l.count l.terms l.initial.own l.own l.place
