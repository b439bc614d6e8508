-- The run was refused, or it came to its end and its rows stand in front: either way it is printed as the definitions print it.
use Prim.Native.Nat.{◌*◌, ◌≤◌}
use native.Mathlib.Omega.{arith}
use lib.Seq.{length-take-le}
use lib.ListN.{length}
use Rattle.text.specs.Output.{printed, resume_text}
use Rattle.text.proofs.RunEnds.{done_prints}
use Rattle.text.proofs.journals.print_resumed.Goals as goal
use Rattle.text.proofs.journals.print_resumed.Goals.{In-Ok}

-- The run's rows are within what is lent.
room : (c : In-Ok) → 4 * c.in-Ok.run'.modes ≤ length c.run_text.new.rows
room c = omega (arith, c.in-Ok.ensures.few)

pub put_done-requires : goal.put_done-requires
put_done-requires c =
    let fits = room (goal.at.put_done-requires c).In-Ok in
    omega (arith, length-take-le (4 * c.in-Ok.run'.modes) c.run_text.new.rows fits, c.in-Ok.ensures.few)

pub returns-in-Err : goal.returns-in-Err
unfolding resume_text printed
returns-in-Err c = rw c.in-Err.ensures.is c.put_refusal.ensures

pub returns-in-Ok : goal.returns-in-Ok
unfolding resume_text
returns-in-Ok c = rw (done_prints c.in-Ok.ensures (omega arith)) at c.put_done.ensures
