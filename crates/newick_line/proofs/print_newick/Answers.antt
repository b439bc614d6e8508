-- The run was refused, or its table stands in front, whose line is printed.
use mathlib.Core.Path.{sym, ◌∙◌}
use Prim.Native.Nat.{◌*◌, ◌≤◌}
use native.Mathlib.Omega.{arith}
use lib.ListN.{length}
use lib.Seq.{length-take-le}
use Rattle.ran_tree.proofs.TreeEnds.{tree_refused}
use Rattle.newick_line.specs.NewickLine.{newick_answer_text}
use Rattle.newick_line.specs.code.Lines.{table_line, line_room}
use Rattle.newick_line.proofs.RunsWritten.{run_line}
use Rattle.newick_line.proofs.print_newick.Goals as goal
use Rattle.newick_line.proofs.print_newick.Goals.{In-Ok}

-- The table of the modes is within what is lent.
room : (c : In-Ok) → 3 * c.in-Ok.modes ≤ length c.run_tree.new.table
room c = omega (arith, c.in-Ok.ensures.few)

pub slice_bounds-put_line-end : goal.slice_bounds-put_line-end
slice_bounds-put_line-end c = sym (length-take-le _ _ (room (goal.at.slice_bounds-put_line-end c).In-Ok))

pub returns-in-Err : goal.returns-in-Err
unfolding newick_answer_text
returns-in-Err c = rw (tree_refused c.in-Err.ensures (table_line 256 line_room) ∙ run_line _) at c.put_refusal.ensures

pub returns-in-Ok : goal.returns-in-Ok
unfolding newick_answer_text
returns-in-Ok c = rw (c.in-Ok.ensures.prints (table_line 256 line_room) ∙ run_line _) at c.put_line.ensures
