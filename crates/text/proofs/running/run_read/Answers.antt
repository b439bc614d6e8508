-- What was read says what the text says: it is malformed, or its terms are run.
use mathlib.Core.Path.{refl, sym}
use Prim.Native.Nat.{◌*◌, ◌≤◌}
use native.Mathlib.Omega.{arith}
use lib.Seq.{length-take-le}
use lib.ListN.{length}
use Rattle.refusal.proofs.Told.{handed_on}
use Rattle.text.specs.Running.{program_rooms}
use Rattle.text.specs.code.Runs.{drops_then}
use Rattle.text.proofs.InputRan.{given_ran, malformed_ran}
use Rattle.text.proofs.running.run_read.Goals as goal
use Rattle.text.proofs.running.run_read.Goals.{In_ok-given}

-- The numbers of the terms are within the room.
room : (c : In_ok-given) → 8 * c.in_ok-given.given.count ≤ length c.read_input.new.numbers
room c = omega (arith, c.in_ok-given.ensures.few)

pub slice_bounds-run_given-end : goal.slice_bounds-run_given-end
slice_bounds-run_given-end c = sym (length-take-le _ _ (room (goal.at.slice_bounds-run_given-end c).In_ok-given))

pub returns-in_err-given : goal.returns-in_err-given
unfolding drops_then
returns-in_err-given c =
    let args = c.args in
    let is = malformed_ran 2048 args.asks.now.text.now c.read_input.new.numbers program_rooms args.asks.now.rule args.read.now refl _ c.in_err-given.ensures in
    rw (handed_on c.from_residual.ensures) (record { runs = record { is = is; leaves = refl }; drops_after = rw is })

pub returns : goal.returns
returns c =
    let args = c.args in
    rw (given_ran 2048 args.asks.now.text.now c.read_input.new.numbers program_rooms args.asks.now.rule args.read.now refl _ c.in_ok-given.ensures) at
    c.run_given.ensures
