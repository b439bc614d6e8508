-- The nodes gathered and those ahead are all that remain.
use native.Mathlib.Nat.{sub-zero}
use Rattle.std.proofs.Common.{arith, take}
use Rattle.lists.proofs.Joined.{gathered, gathered_all}
use Rattle.lists.proofs.Ranges.{keep_on, keep_done}
use Rattle.tree.specs.Table.{nodes}
use Rattle.slots.specs.Nodes.{remaining}
use Rattle.slots.proofs.restrictions.TreeRestrictions.fill_remaining.Goals as goal

pub loop-node-init : goal.loop-node-init
unfolding remaining nodes
loop-node-init c = (omega arith, rw sub-zero)

pub loop-node-preserved : goal.loop-node-preserved
loop-node-preserved c =
    let args = c.args in
    let put = c.put_if-count in
    let same = put.auto.numbers in
    let one = rw c.complete-stays.ensures at put.ensures.1 in (
      omega arith,
      gathered (take c.loop-node.count c.loop-node.left) _ _ _ _ _ one (keep_on _ (λ v. v) args.self.now.modes c.loop-node.node (omega arith)) c.loop-node.invariant.1,
    )

pub returns : goal.returns
returns c =
    (omega arith, gathered_all _ _ _ (keep_done _ (λ v. v) _ _ (omega arith)) c.loop-node.invariant.1)
