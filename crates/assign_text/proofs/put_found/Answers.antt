-- The weight's line and the rows' lines behind it, or the refusal.
use native.Mathlib.Omega.{arith}
use Rattle.tree.specs.Laying.{modes_in}
use Rattle.assign_text.specs.code.Finding.{found_text}
use Rattle.assign_text.proofs.AssignmentPrinted.{found_wrote}
use Rattle.assign_text.proofs.put_found.Goals as goal

pub put_nodes-requires : goal.put_nodes-requires
unfolding modes_in
put_nodes-requires c = omega (arith, c.put_value-end.ensures.value.1, c.put_value-end.auto, c.requires)

pub returns-in-Err : goal.returns-in-Err
unfolding found_text
returns-in-Err c = rw c.in-Err.is c.put_refusal.ensures

pub returns-in-Ok : goal.returns-in-Ok
unfolding found_text modes_in
returns-in-Ok c =
    let value = c.put_value-end.ensures in
    let lines = c.put_nodes.ensures in
    rw c.in-Ok.is
    (found_wrote c.in-Ok.weight c.args.rows.now c.args.out.now (record { behind = value.value.0; written = value.out_after })
    (record { behind = lines.value.0; written = lines.out_after }) (omega (arith, value.value.1, c.requires)) (omega (arith, value.value.1, lines.value.1, c.requires)))
