-- The terms stand as work rows in the front of work, where the rounds are made; it is cleared behind them.
use mathlib.Core.Path.{◌∙◌}
use Rattle.terms.specs.Rows.{terms_of}
use Rattle.terms.proofs.RowSteps.{length_terms}
use Rattle.terms.proofs.CountedRows.{spread_terms, spread_worked}
use Rattle.topphatt.specs.code.Going.{task_with}
use Rattle.topphatt.proofs.Answers.{done_so}
use Rattle.topphatt.proofs.task.Task.assign_in.Goals as goal

pub assign_rows-weight-requires-clause-worked : goal.assign_rows-weight-requires-clause-worked
assign_rows-weight-requires-clause-worked c =
    let put = c.put_each_once in
    spread_worked c.args.count c.args.terms.now put.new.rows put.ensures.spread c.requires.count_le_most_terms

pub returns : goal.returns
returns c =
    let put = c.put_each_once in
    let args = c.args in
    let terms = args.terms.now in
    let count = args.count in
    let task = task_with args.self.now (terms_of 8 count terms) in
    let tabled = c.assign_rows-weight.ensures in
    let same = spread_terms count terms put.new.rows put.ensures.spread in
    done_so task count args.work.now c.assign_rows-weight.new.rows args.table.now _ _ _ (length_terms 8 count terms)
    (rw same at tabled.weight_is) (tabled.rest ∙ put.ensures.rows_unchanged) c.clear_front.ensures (rw same at tabled.table_is)
