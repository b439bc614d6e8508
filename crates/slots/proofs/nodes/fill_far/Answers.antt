-- The nodes gathered and those ahead are all with the largest distance.
use Rattle.std.proofs.Common.{◌∙◌, ap, arith, take, eqb}
use Rattle.lists.specs.Members.{keep}
use Rattle.lists.proofs.Every.{below_at}
use Rattle.lists.proofs.Joined.{gathered, gathered_all}
use Rattle.lists.proofs.Steps.{keep_step, keep_end}
use Rattle.slots.specs.Nodes.{distance, farthest}
use Rattle.slots.proofs.nodes.fill_far.Goals as goal

pub distance_at-requires : goal.distance_at-requires
distance_at-requires c =
    let low = below_at c.args.modes c.args.left.now c.loop-node.node-index 0 (omega arith) c.requires.left_value in
    (omega arith, low)

pub loop-node-preserved : goal.loop-node-preserved
loop-node-preserved c =
    let args = c.args in
    let put = c.put_if-count in
    let same = put.auto.numbers in (
      omega arith,
      λ table are.
          (let one = rw (c.distance_at.ensures table are) at put.ensures.1 in
          gathered (take c.loop-node.count c.loop-node.far) _ _ _ _ _ one (keep_step _ args.left.now c.loop-node.node-index 0 (omega arith)) (c.loop-node.invariant.1 table are)),
    )

pub returns : goal.returns
unfolding farthest
returns c =
    let args = c.args in (
      omega arith,
      λ table are.
          (gathered_all _ _ _ (keep_end _ args.left.now c.loop-node.node-index (omega arith)) (c.loop-node.invariant.1 table are)
          ∙ ap (λ m. keep (λ v. eqb (distance table args.modes v) m) args.left.now) (c.largest-most.ensures table are)),
    )
