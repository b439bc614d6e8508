-- Three stores behind the label make the row.
use Prim.Native.Nat.{◌*◌}
use native.Mathlib.Omega.{arith}
use lib.ListN.{length-set}
use Rattle.assign_text.proofs.AssignedRows.{row_stored}
use Rattle.assign_text.proofs.assigned_rows.assign_row.Goals as goal

pub bounds-rows-at-3 : goal.bounds-rows-at-3
bounds-rows-at-3 c = simp length-set (omega arith)

pub bounds-rows-at-4 : goal.bounds-rows-at-4
bounds-rows-at-4 c = simp length-set (omega arith)

pub returns : goal.returns
returns c =
    row_stored c.args.rows.now c.args.table.now (4 * c.args.row) _ _ _ _ c.requires c.from-label.ensures c.child_of.ensures c.child_of-2.ensures c.child_of-3.ensures
