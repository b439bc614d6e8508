-- The run was refused, or it came to its end and its drops stand in front: either way it is printed as the definitions print it.
use mathlib.Core.Path.{sym}
use Prim.Native.Nat.{◌≤◌}
use native.Mathlib.Omega.{arith}
use lib.ListN.{length}
use lib.Seq.{length-take-le}
use Rattle.drops_text.specs.Dropping.{drops_printed, drops_text}
use Rattle.drops_text.proofs.DropsPrinted.{drops_stand, drops_told}
use Rattle.drops_text.proofs.print_drops.Goals as goal
use Rattle.drops_text.proofs.print_drops.Goals.{In-Ok}

-- The run's drops are within what is lent.
room : (c : In-Ok) → c.in-Ok.run'.modes ≤ length c.run_drops.new.drops
room c = omega (arith, c.in-Ok.ensures.runs.few)

pub slice_bounds-put_drops-end : goal.slice_bounds-put_drops-end
slice_bounds-put_drops-end c = sym (length-take-le _ _ (room (goal.at.slice_bounds-put_drops-end c).In-Ok))

pub put_drops-requires : goal.put_drops-requires
put_drops-requires c =
    let fits = room (goal.at.put_drops-requires c).In-Ok in
    omega (arith, length-take-le c.in-Ok.run'.modes c.run_drops.new.drops fits, c.in-Ok.ensures.runs.few)

pub returns-in-Err : goal.returns-in-Err
unfolding drops_text drops_printed
returns-in-Err c = rw c.in-Err.ensures.runs.is c.put_refusal.ensures

pub returns-in-Ok : goal.returns-in-Ok
unfolding drops_text
returns-in-Ok c =
    let known = c.in-Ok.ensures.runs in
    rw (drops_stand known _ _ c.in-Ok.ensures.drops_after (omega (arith, known.few)), ← drops_told known) at
    c.put_drops.ensures
