-- The rows written anew and those ahead give the answer.
use native.Mathlib.Omega.{arith}
use Rattle.tree.specs.Laying.{modes_in}
use Rattle.assign_text.proofs.AssignedRows.{anew_starts, anew_goes, anew_ends}
use Rattle.assign_text.proofs.assigned_rows.assign_rows.Goals as goal

pub loop-row-init : goal.loop-row-init
loop-row-init c = anew_starts c.args.rows.now c.args.table.now c.requires

pub assign_row-requires : goal.assign_row-requires
unfolding modes_in
assign_row-requires c = omega (arith, c.loop-row.invariant.size, c.requires)

pub loop-row-preserved : goal.loop-row-preserved
unfolding modes_in
loop-row-preserved c =
    anew_goes c.args.rows.now c.args.table.now c.requires _ _ c.loop-row.invariant _ (omega arith) c.assign_row.ensures

pub returns : goal.returns
unfolding modes_in
returns c =
    anew_ends c.args.rows.now c.args.table.now c.requires _ _ c.loop-row.invariant (omega arith)
