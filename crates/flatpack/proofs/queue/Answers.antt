-- The three are put in their order, each behind what stands there then.
use native.Mathlib.Omega.{arith}
use lib.Dec.{ltb}
use lib.ListN.{take}
use Rattle.lists.proofs.Kept.{three_kept}
use Rattle.flatpack.proofs.queue.Goals as goal

pub returns : goal.returns
returns c =
    let z = c.queue_node in
    let y = c.queue_node-with_y in
    let x = c.queue_node-with_x in
    let args = c.args in
    let codes = args.codes in (
      omega arith,
      omega arith,
      rw (z.ensures.2, y.ensures.2, x.ensures.2)
          (three_kept (λ child. ltb child args.modes) (take args.tail args.labels.now) codes.x codes.y codes.z),
    )
