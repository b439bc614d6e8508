-- The arrays of its own suffice, so that what is handed on means what is said of the call outright.
use Prim.Native.Nat.{◌*◌}
use native.Mathlib.Omega.{arith}
use Rattle.entities.specs.Limits.{most_modes, most_terms, work_width}
use Rattle.topphatt.specs.Answer.{Rooms}
use Rattle.assign_call.specs.Calls.{lent_table}
use Rattle.assign_call.proofs.AssignAnswered.{assign_so}
use Rattle.assign_call.proofs.Outright.{assign_outright}
use Rattle.assign_call.proofs.assign_bytes.Goals as goal

pub returns : goal.returns
returns c =
    let args = c.args in
    let given = lent_table args.table.now args.answer.now in
    let own : Rooms = record { modes = most_modes; work = work_width * most_terms; table = 3 * most_modes } in
    assign_so _ _ given _ _
    (assign_outright own (omega arith) (omega arith) args.modes args.tree.now args.heuristic args.terms.now given)
    c.assign_lent.ensures
