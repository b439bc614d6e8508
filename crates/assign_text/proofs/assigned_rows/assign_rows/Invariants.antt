-- The rows written anew and those ahead give the answer.
use Rattle.assign_text.proofs.AssignedRows.{Anew}
use Rattle.assign_text.proofs.assigned_rows.assign_rows.Given as goal

abbrev pub invariant-loop-row : goal.invariant-loop-row
invariant-loop-row l = Anew l.initial.rows l.table l.rows l.row
