-- The parts that are lent mean what the bytes and their rooms mean.
use mathlib.Core.Path.{sym}
use Prim.Native.Nat.{◌≤◌}
use native.Mathlib.Omega.{arith}
use lib.ListN.{length}
use lib.Seq.{length-take-le}
use Rattle.call_bytes.proofs.RoomFits.{room_fits}
use Rattle.daemon.specs.Calls.{lent}
use Rattle.daemon.proofs.CallAnswered.{called_so, lent_means}
use Rattle.daemon.proofs.calling.resume_lent.Goals as goal

pub slice_bounds-resume_numbers-end-2 : goal.slice_bounds-resume_numbers-end-2
slice_bounds-resume_numbers-end-2 c =
    let read_terms = c.read_terms-count in
    sym (length-take-le read_terms.result _ read_terms.ensures.fits)

pub slice_bounds-resume_numbers-end-3 : goal.slice_bounds-resume_numbers-end-3
slice_bounds-resume_numbers-end-3 c =
    let args = c.args in
    let own = args.own.now in
    let room = c.room_for-room in
    let fits = room_fits 4 (length own) (length args.rows.now) (length args.answer.now) in
    let within : room.result ≤ length own = omega (arith, room.ensures, fits.in_own) in
    within

pub slice_bounds-resume_numbers-end-4 : goal.slice_bounds-resume_numbers-end-4
slice_bounds-resume_numbers-end-4 c =
    let args = c.args in
    let own = args.own.now in
    let room = c.room_for-room in
    let fits = room_fits 4 (length own) (length args.rows.now) (length args.answer.now) in
    sym (length-take-le room.result own (omega (arith, room.ensures, fits.in_own)))

pub resume_numbers-requires : goal.resume_numbers-requires
resume_numbers-requires c =
    let args = c.args in
    let own = args.own.now in
    let room = c.room_for-room in
    let fits = room_fits 4 (length own) (length args.rows.now) (length args.answer.now) in
    let l = length-take-le room.result own (omega (arith, room.ensures, fits.in_own)) in
    (omega (arith, l, room.ensures, fits.in_bytes), λ some. fits.answered (omega (arith, l, room.ensures, some)))

pub returns : goal.returns
returns c =
    let args = c.args in
    let own = args.own.now in
    let room = c.room_for-room in
    let read_terms = c.read_terms-count in
    let given = lent args.rows.now args.journal.now args.answer.now in
    called_so _ _ given _ _
    (lent_means args.modes args.terms.now args.read.now _ args.work.now own args.drops.now read_terms.result room.result given read_terms.ensures room.ensures)
    c.resume_numbers.ensures
