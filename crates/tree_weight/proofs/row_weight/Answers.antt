-- The weight at the nodes passed and at those ahead is the weight at all.
use Rattle.std.proofs.Common.{◌≡◌, ◌∙◌, sym, ap, zero-add, arith}
use Rattle.lists.proofs.Ranges.{sum_on, sum_done}
use Rattle.terms.specs.Letters.{not_none}
use Rattle.tree_weight.specs.Weight.{node_weight}
use Rattle.tree_weight.proofs.TreeWeighing.{row_start}
use Rattle.tree_weight.proofs.row_weight.Goals as goal

pub loop-node-init : goal.loop-node-init
loop-node-init c =
    let args = c.args in
    (omega arith, zero-add _ ∙ sym (row_start args.placed.now.modes args.placed.now.tree.now args.term.now))

pub loop-node-preserved : goal.loop-node-preserved
unfolding node_weight
loop-node-preserved c =
    let args = c.args in
    let e : c.not_none.result ≡ node_weight args.placed.now.modes args.placed.now.tree.now args.term.now c.loop-node.node =
    c.not_none.ensures.0 ∙ ap not_none c.node_letter.ensures in
    let step = sum_on (node_weight args.placed.now.modes args.placed.now.tree.now args.term.now) (λ v. v) args.placed.now.modes c.loop-node.node (omega arith) in
    omega arith

pub returns : goal.returns
returns c =
    let args = c.args in
    let done = sum_done (node_weight args.placed.now.modes args.placed.now.tree.now args.term.now) (λ v. v) args.placed.now.modes c.loop-node.node (omega arith) in
    omega arith
