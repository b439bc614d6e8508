-- The run was refused and is printed so, or its new lines are copied to where they are to be printed.
use Rattle.std.proofs.Common.{ap, arith}
use lib.ListN.{length}
use Rattle.text.specs.Output.{new_printed, continue_text}
use Rattle.text.proofs.RunEnds.{new_stand}
use Rattle.text.proofs.journals.print_new.Goals as goal

pub returns-in-Err : goal.returns-in-Err
unfolding continue_text new_printed
returns-in-Err c = rw c.in-Err.ensures.is c.put_refusal.ensures

pub returns-in-Ok : goal.returns-in-Ok
unfolding continue_text new_printed
returns-in-Ok c =
    let known = c.in-Ok.ensures in
    let front = new_stand known in
    rw known.is
    (record {
      count = omega (arith, c.put_bytes.ensures.value, ap length front);
      fits = omega (arith, known.new, known.fits);
      bytes = rw front at c.put_bytes.ensures.out_after;
    })
