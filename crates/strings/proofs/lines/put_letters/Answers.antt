-- The letters of the nodes passed are written; at the end that is all of them.
use Rattle.std.proofs.Common.{refl, arith, length-set}
use Rattle.strings.proofs.LinesWritten.{bytes_start, bytes_next, bytes_end}
use Rattle.strings.proofs.lines.put_letters.Goals as goal

pub loop-node-init : goal.loop-node-init
loop-node-init c =
    let args = c.args in
    (refl, bytes_start args.placed.now.modes args.placed.now.tree.now args.majorana args.at args.text.now)

pub loop-node-preserved : goal.loop-node-preserved
loop-node-preserved c =
    let args = c.args in
    let node = c.loop-node.node in
    let next = bytes_next args.placed.now.modes args.placed.now.tree.now args.majorana args.at node args.text.now c.loop-node.text (omega arith) c.loop-node.invariant.1 in
    (simp length-set (omega arith), rw c.letter_at.ensures next)

pub returns-clause-text_after : goal.returns-clause-text_after
returns-clause-text_after c =
    let args = c.args in
    bytes_end args.placed.now.modes args.placed.now.tree.now args.majorana args.at c.loop-node.node args.text.now c.loop-node.text (omega arith) c.loop-node.invariant.1
