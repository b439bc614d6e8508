-- The text is malformed, or its numbers stand in front.
use mathlib.Core.Path.{sym}
use Prim.Native.Nat.{◌*◌, ◌≤◌}
use native.Mathlib.Omega.{arith}
use lib.ListN.{length}
use lib.Seq.{length-take-le}
use Rattle.best_text.specs.Printing.{best_text}
use Rattle.best_text.proofs.BestPrinted.{best_malformed}
use Rattle.best_text.proofs.print_read.Goals as goal
use Rattle.best_text.proofs.print_read.Goals.{In-Ok}

-- The numbers of the terms are within the room.
room : (c : In-Ok) → 8 * c.in-Ok.given.count ≤ length c.read_input.new.numbers
room c = omega (arith, c.in-Ok.ensures.few)

pub slice_bounds-print_given-end : goal.slice_bounds-print_given-end
slice_bounds-print_given-end c = sym (length-take-le _ _ (room (goal.at.slice_bounds-print_given-end c).In-Ok))

pub returns-in-Err : goal.returns-in-Err
unfolding best_text
returns-in-Err c = rw (best_malformed 4 12 _ _ c.in-Err.ensures) at c.put_refusal.ensures

pub returns-in-Ok : goal.returns-in-Ok
unfolding best_text
returns-in-Ok c = rw (sym c.in-Ok.ensures.says) at c.print_given.ensures
