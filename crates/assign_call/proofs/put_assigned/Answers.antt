-- The codes and the weight are put where there is room for them.
use mathlib.Core.Path.{sym}
use Prim.Native.Nat.{◌*◌}
use native.Mathlib.Omega.{arith}
use lib.Seq.{length-take-le}
use Rattle.assign_call.proofs.put_assigned.Goals as goal

pub slice_bounds-put_words-end : goal.slice_bounds-put_words-end
slice_bounds-put_words-end c =
    sym (length-take-le (3 * c.args.modes) c.args.own.now c.requires.0)

pub put_words-requires : goal.put_words-requires
put_words-requires c =
    rw (length-take-le (3 * c.args.modes) c.args.own.now c.requires.0) (omega arith)
