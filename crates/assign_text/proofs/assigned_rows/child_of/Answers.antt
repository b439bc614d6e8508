-- The table has the child, or it has no such node.
use native.Mathlib.Omega.{arith}
use Rattle.assign_text.proofs.AssignedRows.{child_beyond, child_within}
use Rattle.assign_text.proofs.assigned_rows.child_of.Goals as goal

pub returns-then-table-at : goal.returns-then-table-at
returns-then-table-at c = child_beyond c.args.table.now c.args.label c.args.edge c.if-table-at.true

pub returns : goal.returns
returns c = child_within c.args.table.now c.args.label c.args.edge (omega arith)
