-- The nodes gathered and the first of those ahead are all the firsts.
use Rattle.std.proofs.Common.{not, refl, arith, lt-ltb, get_or, take, ltb}
use Rattle.lists.specs.Members.{every, firsts}
use Rattle.lists.proofs.Every.{below_at, every_more}
use Rattle.lists.proofs.Firsts.{firsts_next, firsts_end}
use Rattle.lists.proofs.Joined.{gathered_all}
use Rattle.slots.specs.code.Restrictions.{alike_in}
use Rattle.slots.proofs.restrictions.TreeRestrictions.fill_firsts.Goals as goal

pub loop-node-init : goal.loop-node-init
unfolding every firsts
loop-node-init c = (omega arith, refl, refl)

pub has_like-seen-requires-clause-node_lt_modes : goal.has_like-seen-requires-clause-node_lt_modes
has_like-seen-requires-clause-node_lt_modes c =
    below_at c.args.self.now.modes c.args.far.now c.loop-node.node-index 0 (omega arith) c.requires.far_value

pub loop-node-preserved : goal.loop-node-preserved
loop-node-preserved c =
    let args = c.args in
    let put = c.put_if-count in
    let seen = c.has_like-seen in
    let same = put.auto.numbers in
    let inside = c.loop-node-test.true in
    let low = below_at args.self.now.modes args.far.now c.loop-node.node-index 0 inside c.requires.far_value in
    let one = rw seen.ensures at put.ensures.1 in (
      omega (arith, put.ensures.0),
      rw put.ensures.1 (every_more (λ v. ltb v args.self.now.modes) (take c.loop-node.count c.loop-node.kept) (get_or args.far.now c.loop-node.node-index 0) (not seen.result) c.loop-node.invariant.1 (lt-ltb _ _ low)),
      firsts_next (alike_in args.self.now) args.far.now c.loop-node.node-index 0 (take c.loop-node.count c.loop-node.kept) _ _ inside one c.loop-node.invariant.2,
    )

pub returns : goal.returns
returns c =
    let args = c.args in
    (omega arith, gathered_all _ _ _ (firsts_end _ args.far.now c.loop-node.node-index _ (omega arith)) c.loop-node.invariant.2)
