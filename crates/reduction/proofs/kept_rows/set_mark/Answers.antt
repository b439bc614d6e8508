-- The row's place stands at its mark, and what stood there stands at the place.
use mathlib.Core.Path.{ap}
use native.Mathlib.Omega.{arith}
use lib.ListN.{length-set}
use Rattle.reduction.specs.code.Marks.{put_first}
use Rattle.reduction.proofs.kept_rows.set_mark.Goals as goal

pub returns : goal.returns
unfolding put_first
returns c =
    let args = c.args in
    ap (λ mark. put_first 16384 mark args.place args.chains.now) c.mark_of-mark.ensures.0
