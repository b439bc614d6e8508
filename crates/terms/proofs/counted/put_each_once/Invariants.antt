-- The rows passed are work rows, and what stands behind them is as it was.
use Rattle.terms.proofs.CountedRows.{Spreading}
use Rattle.terms.proofs.counted.put_each_once.Given as goal

abbrev pub invariant-loop-place : goal.invariant-loop-place
invariant-loop-place l = Spreading l.count l.terms l.initial.rows l.rows l.place
