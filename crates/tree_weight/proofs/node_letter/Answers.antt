-- Each count and what is ahead of it make all the edges of its kind; at the end the three counts decide the letter.
use Rattle.std.proofs.Common.{◌≡◌, ◌∙◌, ap, ◌<◌, ◌≤◌, ◌*◌, add-one, arith, length}
use Rattle.lists.specs.Counting.{same, occurrences}
use Rattle.lists.proofs.Standard.{same_is}
use Rattle.lists.proofs.Every.{below_at}
use Rattle.tree_weight.specs.Weight.{edges, node_letter}
use Rattle.tree_weight.proofs.TreeWeighing.{edges_step, edges_end}
use Rattle.tree_weight.proofs.node_letter.Goals as goal

pub majorana_edge-edge-requires : goal.majorana_edge-edge-requires
majorana_edge-edge-requires c =
    let below = below_at (2 * c.args.placed.now.modes) c.args.term.now c.loop-index.index-index 0 (omega arith) c.requires in
    let e = c.from.ensures in
    omega arith

pub loop-index-preserved : goal.loop-index-preserved
loop-index-preserved c =
    let args = c.args in
    let term = args.term.now in
    let at = c.loop-index.index-index in
    let h : at < length term = omega arith in
    let x = edges_step args.placed.now.modes args.placed.now.tree.now args.node term at 0 h in
    let y = edges_step args.placed.now.modes args.placed.now.tree.now args.node term at 1 h in
    let z = edges_step args.placed.now.modes args.placed.now.tree.now args.node term at 2 h in
    let found : c.majorana_edge-edge.result ≡ _ = rw (c.from.ensures, add-one) at c.majorana_edge-edge.ensures in
    let own_x = same_is c.majorana_edge-edge.result 0 in
    let ex = c.from-xs.ensures ∙ own_x.0 ∙ ap (λ v. same v 0) found in
    let own_y = same_is c.majorana_edge-edge.result 1 in
    let ey = c.from-ys.ensures ∙ own_y.0 ∙ ap (λ v. same v 1) found in
    let own_z = same_is c.majorana_edge-edge.result 2 in
    let ez = c.from-zs.ensures ∙ own_z.0 ∙ ap (λ v. same v 2) found in
    omega arith

pub returns : goal.returns
unfolding node_letter
returns c =
    let args = c.args in
    let term = args.term.now in
    let at = c.loop-index.index-index in
    let h : length term ≤ at = omega arith in
    let x = edges_end args.placed.now.modes args.placed.now.tree.now args.node term at 0 h in
    let y = edges_end args.placed.now.modes args.placed.now.tree.now args.node term at 1 h in
    let z = edges_end args.placed.now.modes args.placed.now.tree.now args.node term at 2 h in
    let ex : c.loop-index.xs ≡ occurrences 0 (edges args.placed.now.modes args.placed.now.tree.now args.node term) = omega arith in
    let ey : c.loop-index.ys ≡ occurrences 1 (edges args.placed.now.modes args.placed.now.tree.now args.node term) = omega arith in
    let ez : c.loop-index.zs ≡ occurrences 2 (edges args.placed.now.modes args.placed.now.tree.now args.node term) = omega arith in
    rw (← ex, ← ey, ← ez) c.counted_letter.ensures
