-- The arrays of its own suffice, so that what is handed on means what is said of the call outright.
use Prim.Native.Nat.{◌*◌}
use native.Mathlib.Omega.{arith}
use Rattle.entities.specs.Limits.{most_modes, most_terms, work_width}
use Rattle.daemon.specs.Calls.{lent}
use Rattle.daemon.specs.code.Handing.{Own}
use Rattle.daemon.proofs.CallAnswered.{called_so}
use Rattle.daemon.proofs.Outright.{resume_outright}
use Rattle.daemon.proofs.calling.resume_bytes.Goals as goal

pub returns : goal.returns
returns c =
    let args = c.args in
    let given = lent args.rows.now args.journal.now args.answer.now in
    let own : Own = record { modes = most_modes; work = work_width * most_terms; rows = 4 * most_modes; drops = most_modes } in
    called_so _ _ given _ _ (resume_outright own (omega arith) (omega arith) (omega arith) args.modes args.terms.now args.read.now given)
    c.resume_lent.ensures
