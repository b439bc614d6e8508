-- The text is written over the front of what is lent, and so over all of it.
use mathlib.Core.Path.{sym, ap, ◌∙◌}
use mathlib.Core.List.{◌++◌}
use native.Mathlib.Omega.{arith}
use lib.ListN.{drop}
use lib.Seq.{length-take-le}
use Rattle.newick.specs.Calls.{newick_written}
use Rattle.newick_line.specs.code.Lines.{line_room}
use Rattle.newick_line.proofs.LinePrinted.{after_front}
use Rattle.newick_line.proofs.write_text.Goals as goal

pub slice_bounds-write_newick-end-2 : goal.slice_bounds-write_newick-end-2
slice_bounds-write_newick-end-2 c =
    sym (length-take-le line_room c.args.out.now (omega arith))

pub returns : goal.returns
returns c =
    let write = c.write_newick in
    let args = c.args in
    let out = args.out.now in
    let size = length-take-le line_room out (omega arith) in
    let says = write.ensures.tells.answer ∙ ap (newick_written 256 args.modes args.tree.now) size in
    record {
      value = says;
      out_after = ap (λ l. l ++ drop line_room out) write.ensures.text_after ∙ after_front 256 args.modes args.tree.now line_room out (omega arith) write.result says;
    }
