-- The rows gathered and those ahead that are there are all that are there; at the end nothing is ahead.
use Rattle.reduction.proofs.LiveRows.{Gathering}
use Rattle.reduction.proofs.live_rows.put_live.Given as goal

abbrev pub invariant-loop-place : goal.invariant-loop-place
invariant-loop-place l = Gathering l.count l.rows l.initial.live l.live l.kept l.place
