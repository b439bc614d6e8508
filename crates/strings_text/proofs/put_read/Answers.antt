-- No tree was read, or its table stands in front.
use mathlib.Core.Path.{sym}
use Prim.Native.Nat.{◌*◌}
use native.Mathlib.Omega.{arith}
use lib.Seq.{length-take-le}
use Rattle.strings_text.specs.code.Reading.{read_strings}
use Rattle.strings_text.proofs.put_read.Goals as goal

pub slice_bounds-put_strings-end : goal.slice_bounds-put_strings-end
slice_bounds-put_strings-end c =
    let few = rw c.in-Ok.is at c.requires in
    sym (length-take-le (3 * c.in-Ok.modes) c.args.table.now (omega (arith, few)))

pub returns-in-Err : goal.returns-in-Err
unfolding read_strings
returns-in-Err c = rw c.in-Err.is c.put_refusal.ensures

pub returns-in-Ok : goal.returns-in-Ok
unfolding read_strings
returns-in-Ok c = rw c.in-Ok.is c.put_strings.ensures
