-- The weight of the rows passed and of those ahead is the weight of all.
use Rattle.std.proofs.Common.{◌∙◌, ap, ◌*◌, arith, ltb}
use Rattle.lists.specs.Members.{every}
use Rattle.terms.proofs.RowSteps.{every_term_at}
use Rattle.tree_weight.specs.Weight.{row_weight}
use Rattle.tree_weight.proofs.TreeWeighing.{tree_step, tree_end}
use Rattle.tree_weight.proofs.rows_weight.Goals as goal

pub row_weight-sum-requires : goal.row_weight-sum-requires
row_weight-sum-requires c =
    let args = c.args in
    let below = every_term_at (every (λ index. ltb index (2 * args.placed.now.modes))) 9 args.count c.loop-place.place args.terms.now c.requires.below (omega arith) in
    rw c.term_at.ensures below

pub loop-place-preserved : goal.loop-place-preserved
loop-place-preserved c =
    let args = c.args in
    let step = tree_step args.placed.now.modes args.placed.now.tree.now args.count c.loop-place.place args.terms.now (omega arith) in
    let e = c.row_weight-sum.ensures.0 ∙ ap (row_weight args.placed.now.modes args.placed.now.tree.now) c.term_at.ensures in
    omega arith

pub returns : goal.returns
returns c =
    let args = c.args in
    let done = tree_end args.placed.now.modes args.placed.now.tree.now args.count c.loop-place.place args.terms.now (omega arith) in
    omega arith
