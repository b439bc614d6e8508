-- The lines written and those ahead are always the whole text.
use Rattle.std.proofs.Common.{arith}
use Rattle.strings.proofs.LinesWritten.{lines_start, line_room, lines_next, lines_end}
use Rattle.strings.proofs.lines.put_lines.Goals as goal

pub loop-majorana-init : goal.loop-majorana-init
loop-majorana-init c =
    let args = c.args in
    λ room. lines_start args.placed.now.modes args.placed.now.tree.now args.text.now room

pub put_line-at-requires-clause-majorana_in_bounds : goal.put_line-at-requires-clause-majorana_in_bounds
put_line-at-requires-clause-majorana_in_bounds c =
    let placed = c.args.placed.now in
    line_room placed.modes placed.tree.now c.args.text.now c.requires c.loop-majorana.majorana (c.loop-majorana.invariant c.requires) (omega arith)

pub loop-majorana-preserved : goal.loop-majorana-preserved
loop-majorana-preserved c =
    let args = c.args in
    let put = c.put_line-at.ensures in
    λ room. lines_next args.placed.now.modes args.placed.now.tree.now args.text.now room c.loop-majorana.majorana (c.loop-majorana.invariant room) (omega arith) put.value put.text_after

pub returns : goal.returns
returns c =
    let room = c.requires in
    lines_end c.args.placed.now.modes c.args.placed.now.tree.now c.args.text.now room c.loop-majorana.majorana (c.loop-majorana.invariant room) (omega arith)
