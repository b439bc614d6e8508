-- The rows and the numbers are put where there is room for them.
use mathlib.Core.Path.{sym}
use Prim.Native.Nat.{◌*◌}
use native.Mathlib.Omega.{arith}
use lib.Seq.{length-take-le}
use Rattle.daemon.proofs.answering.put_done.Goals as goal

pub slice_bounds-put_words-end : goal.slice_bounds-put_words-end
slice_bounds-put_words-end c =
    sym (length-take-le (4 * c.args.modes) c.args.own.now c.requires.0)

pub put_words-requires : goal.put_words-requires
put_words-requires c =
    rw (length-take-le (4 * c.args.modes) c.args.own.now c.requires.0) (omega arith)
