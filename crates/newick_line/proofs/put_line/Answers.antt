-- The tree was refused, or its text stands in front and LF behind it.
use native.Mathlib.Omega.{arith}
use Rattle.newick.specs.Writing.{newick_text}
use Rattle.newick_line.specs.code.Lines.{line_room}
use Rattle.newick_line.proofs.LinePrinted.{line_fits, written_line, refused_line}
use Rattle.newick_line.proofs.put_line.Goals as goal
use Rattle.newick_line.proofs.put_line.Goals.{In-Ok}
use Rattle.tree.proofs.WritingAnswered.{Fits}

-- The text is within the line's room.
fits : (c : In-Ok) → Fits (newick_text c.args.modes c.args.tree.now) line_room c.in-Ok.count
fits c = line_fits 256 c.args.modes c.args.tree.now line_room c.in-Ok.count c.in-Ok.ensures.value

pub bounds-out-count : goal.bounds-out-count
bounds-out-count c =
    let known = fits (goal.at.bounds-out-count c).In-Ok in
    omega (arith, known.exact, known.within)

pub overflow_add-result : goal.overflow_add-result
overflow_add-result c =
    let known = fits (goal.at.overflow_add-result c).In-Ok in
    omega (arith, known.exact, known.within)

pub returns-in-Err : goal.returns-in-Err
returns-in-Err c =
    let args = c.args in
    let known = c.in-Err.ensures in
    refused_line 256 args.modes args.tree.now line_room args.out.now _ c.write_text.new.out known.value known.out_after c.put_refusal.ensures

pub returns-in-Ok : goal.returns-in-Ok
returns-in-Ok c =
    let args = c.args in
    let known = c.in-Ok.ensures in
    written_line 256 args.modes args.tree.now line_room args.out.now _ c.write_text.new.out known.value known.out_after
    (omega arith)
