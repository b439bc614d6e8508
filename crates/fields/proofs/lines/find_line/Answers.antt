-- Below the count the line stands in the first, else in the second, with the count taken from its number.
use mathlib.Core.Path.{◌∙◌}
use native.Mathlib.Omega.{arith}
use Rattle.fields.proofs.LineSteps.{found_in_kept, found_in_new}
use Rattle.fields.proofs.lines.find_line.Goals as goal

pub returns-then-line-count : goal.returns-then-line-count
returns-then-line-count c =
    let args = c.args in
    c.line_at.ensures ∙ found_in_kept args.kept.now args.new.now args.line (omega arith)

pub returns : goal.returns
returns c =
    let args = c.args in
    c.line_at-2.ensures ∙ rw c.line_count-count.ensures (found_in_new args.kept.now args.new.now args.line (omega arith))
