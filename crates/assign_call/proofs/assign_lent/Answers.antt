-- The parts that are lent mean what the bytes and their rooms mean.
use mathlib.Core.Path.{sym}
use Prim.Native.Nat.{◌≤◌}
use native.Mathlib.Omega.{arith}
use lib.ListN.{length}
use lib.Seq.{length-take-le}
use Rattle.call_bytes.proofs.RoomFits.{room_fits}
use Rattle.assign_call.specs.Calls.{lent_table}
use Rattle.assign_call.proofs.AssignAnswered.{assign_so, assign_lent_means}
use Rattle.assign_call.proofs.assign_lent.Goals as goal

pub slice_bounds-assign_numbers-end-2 : goal.slice_bounds-assign_numbers-end-2
slice_bounds-assign_numbers-end-2 c =
    let read = c.read_tree-nodes in
    sym (length-take-le read.result _ read.ensures.fits)

pub slice_bounds-assign_numbers-end-4 : goal.slice_bounds-assign_numbers-end-4
slice_bounds-assign_numbers-end-4 c =
    let read = c.read_terms-count in
    sym (length-take-le read.result _ read.ensures.fits)

pub slice_bounds-assign_numbers-end-5 : goal.slice_bounds-assign_numbers-end-5
slice_bounds-assign_numbers-end-5 c =
    let args = c.args in
    let own = args.own.now in
    let room = c.room_for-room in
    let fits = room_fits 1 (length own) (length args.table.now) (length args.answer.now) in
    let within : room.result ≤ length own = omega (arith, room.ensures, fits.in_own) in
    within

pub slice_bounds-assign_numbers-end-6 : goal.slice_bounds-assign_numbers-end-6
slice_bounds-assign_numbers-end-6 c =
    let args = c.args in
    let own = args.own.now in
    let room = c.room_for-room in
    let fits = room_fits 1 (length own) (length args.table.now) (length args.answer.now) in
    sym (length-take-le room.result own (omega (arith, room.ensures, fits.in_own)))

pub assign_numbers-requires : goal.assign_numbers-requires
assign_numbers-requires c =
    let args = c.args in
    let own = args.own.now in
    let room = c.room_for-room in
    let fits = room_fits 1 (length own) (length args.table.now) (length args.answer.now) in
    let l = length-take-le room.result own (omega (arith, room.ensures, fits.in_own)) in
    (omega (arith, l, room.ensures, fits.in_bytes), λ some. fits.answered (omega (arith, l, room.ensures, some)))

pub returns : goal.returns
returns c =
    let args = c.args in
    let own = args.own.now in
    let room = c.room_for-room in
    let fits = room_fits 1 (length own) (length args.table.now) (length args.answer.now) in
    let nodes = c.read_tree-nodes in
    let count = c.read_terms-count in
    let given = lent_table args.table.now args.answer.now in
    assign_so _ _ given _ _
    (assign_lent_means args.modes args.tree.now _ nodes.result args.heuristic args.terms.now _ args.work.now own count.result room.result given nodes.ensures count.ensures room.ensures)
    c.assign_numbers.ensures
