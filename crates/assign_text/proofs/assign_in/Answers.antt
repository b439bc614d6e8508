-- The call refused, or its table stands in front and gave the rows their children.
use Rattle.terms.specs.Rules.{rule_number}
use Rattle.std.specs.Prelude.{Ok}
use mathlib.Core.Path.{sym, ap, ◌∙◌}
use native.Mathlib.Omega.{arith}
use lib.Seq.{length-take-le}
use lib.ListN.{length}
use Rattle.refusal.proofs.Told.{handed_on}
use Rattle.topphatt.specs.Promises.{lent}
use Rattle.assign_text.specs.code.Finding.{found_text}
use Rattle.assign_text.proofs.AssignmentPrinted.{refused_printed, done_printed}
use Rattle.assign_text.proofs.assign_in.Goals as goal

pub slice_bounds-assign_rows-end : goal.slice_bounds-assign_rows-end
slice_bounds-assign_rows-end c =
    let assign = c.assign in
    sym (length-take-le (length c.args.table.now) assign.new.table (omega arith))

pub returns-in_err-weight : goal.returns-in_err-weight
unfolding found_text
returns-in_err-weight c =
    let args = c.args in
    let assign = c.assign in
    rw (handed_on c.from_residual.ensures)
    (refused_printed args.modes (rule_number args.rule) args.heuristic args.table.now args.numbers.now args.rows.now (lent args.work.now args.assigned.now) (lent assign.new.work assign.new.table) assign.result (omega arith) (omega arith) (rw c.from.ensures at assign.ensures) _ c.in_err-weight.was)

pub returns : goal.returns
unfolding found_text
returns c =
    let args = c.args in
    let assign = c.assign in
    ap (found_text (Ok c.in_ok-weight.weight)) c.assign_rows.ensures ∙ done_printed args.modes (rule_number args.rule) args.heuristic args.table.now args.numbers.now args.rows.now (lent args.work.now args.assigned.now) (lent assign.new.work assign.new.table) assign.result (omega arith) (omega arith) (rw c.from.ensures at assign.ensures) _ c.in_ok-weight.was c.requires.1
