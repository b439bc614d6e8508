-- A refusal leaves the lent bytes as they are; a run that is done puts its rows and its numbers.
use Prim.Native.Nat.{◌*◌, ◌≤◌}
use native.Mathlib.Omega.{arith}
use lib.ListN.{length}
use Rattle.journal.specs.Promises.{lent as run_lent, rooms_of}
use Rattle.daemon.proofs.RefusalPlaces.{refused_place}
use Rattle.daemon.proofs.CallAnswered.{why_refused, fit, called_refused, called_done}
use Rattle.daemon.proofs.calling.resume_numbers.Goals as goal

pub refusal_result-requires : goal.refusal_result-requires
refusal_result-requires c =
    let args = c.args in
    let answers = c.resume.ensures in
    refused_place args.modes 0 args.terms.now (rooms_of 256 (run_lent args.work.now args.own.now args.journal.now args.drops.now)) (omega arith) args.read.now _
    (why_refused args.modes args.terms.now args.read.now args.work.now args.own.now args.drops.now args.rows.now args.journal.now args.answer.now _ _ _ _ _ answers _ c.in-Err.is)

pub put_done-requires : goal.put_done-requires
put_done-requires c =
    let args = c.args in
    let answers = c.resume.ensures in
    let fits = fit args.modes args.terms.now args.read.now args.work.now args.own.now args.drops.now args.rows.now args.journal.now args.answer.now _ _ _ _ _ answers _ c.in-Ok.is in
    let some : 1 ≤ length args.own.now = omega (arith, fits.room, fits.some) in
    let room : 8 * args.modes ≤ length args.rows.now = omega (arith, fits.room, c.requires.0) in
    (omega (arith, fits.room), room, c.requires.1 some)

pub returns-in-Err : goal.returns-in-Err
returns-in-Err c =
    let args = c.args in
    let answers = c.resume.ensures in
    called_refused args.modes args.terms.now args.read.now args.work.now args.own.now args.drops.now args.rows.now args.journal.now args.answer.now _ _ _ _ _ answers _ _ c.in-Err.is c.refusal_result.ensures

pub returns-in-Ok : goal.returns-in-Ok
returns-in-Ok c =
    let args = c.args in
    let answers = c.resume.ensures in
    let put = c.put_done.ensures in
    called_done args.modes args.terms.now args.read.now args.work.now args.own.now args.drops.now args.rows.now args.journal.now args.answer.now _ _ _ _ _ answers _ c.in-Ok.is _ _ put.0 put.1
