-- A refusal leaves the lent bytes as they are; an assignment that is done puts its codes and its weight.
use Prim.Native.Nat.{◌*◌, ◌≤◌}
use native.Mathlib.Omega.{arith}
use lib.ListN.{length}
use Rattle.topphatt.specs.Answer.{asked, outcome}
use Rattle.topphatt.specs.Promises.{lent, rooms_of}
use Rattle.assign_call.specs.Calls.{lent_table}
use Rattle.assign_call.proofs.AssignPlaces.{assign_refused_place}
use Rattle.assign_call.proofs.AssignAnswered.{unassigned_meant, assigned_meant, table_fits, assign_refused, assign_written}
use Rattle.assign_call.proofs.assign_numbers.Goals as goal

pub refusal_result-requires : goal.refusal_result-requires
refusal_result-requires c =
    let args = c.args in
    let call = asked args.modes 0 args.tree.now args.heuristic args.terms.now in
    let given = lent args.work.now args.own.now in
    let meant = outcome (rooms_of 256 given) call in
    let answers = c.assign.ensures in
    assign_refused_place (rooms_of 256 given) (omega arith) call _ (unassigned_meant meant _ _ answers.answer c.in-Err.is)

pub put_assigned-requires : goal.put_assigned-requires
put_assigned-requires c =
    let args = c.args in
    let call = asked args.modes 0 args.tree.now args.heuristic args.terms.now in
    let given = lent args.work.now args.own.now in
    let meant = outcome (rooms_of 256 given) call in
    let answers = c.assign.ensures in
    let finish = assigned_meant meant _ _ answers.answer c.in-Ok.is in
    let fit = table_fits (rooms_of 256 given) call finish.count _ finish.codes finish.is in
    let some : 1 ≤ length args.own.now = omega (arith, fit.has_room, fit.some_modes) in
    let room : 6 * args.modes ≤ length args.table.now = omega (arith, fit.has_room, c.requires.0) in
    (omega (arith, fit.has_room), room, c.requires.1 some)

pub returns-in-Err : goal.returns-in-Err
returns-in-Err c =
    let args = c.args in
    let call = asked args.modes 0 args.tree.now args.heuristic args.terms.now in
    let given = lent args.work.now args.own.now in
    let meant = outcome (rooms_of 256 given) call in
    let answers = c.assign.ensures in
    assign_refused meant (lent_table args.table.now args.answer.now) _ _ (unassigned_meant meant _ _ answers.answer c.in-Err.is) c.refusal_result.ensures

pub returns-in-Ok : goal.returns-in-Ok
returns-in-Ok c =
    let args = c.args in
    let call = asked args.modes 0 args.tree.now args.heuristic args.terms.now in
    let given = lent args.work.now args.own.now in
    let meant = outcome (rooms_of 256 given) call in
    let answers = c.assign.ensures in
    let finish = assigned_meant meant _ _ answers.answer c.in-Ok.is in
    let fit = table_fits (rooms_of 256 given) call finish.count _ finish.codes finish.is in
    let put = c.put_assigned.ensures in
    assign_written meant (lent_table args.table.now args.answer.now) args.modes _ given _ _ _ finish fit answers.leaves put.0 put.1
