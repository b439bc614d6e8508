-- Too little room is refused; else nothing can refuse any more.
use mathlib.Core.Path.{sym}
use Rattle.terms.proofs.RuleNumbers.{rule_of_number}
use Rattle.topphatt.specs.code.Going.{asked_by}
use Rattle.topphatt.specs.Answer.{task_of, done_by, with_room}
use Rattle.topphatt.specs.Promises.{lent, rooms_of}
use Rattle.topphatt.proofs.Answers.{room_work, room_table, room_done, refused_so, assigns_so}
use Rattle.topphatt.proofs.task.Task.assign_good.Goals as goal

pub returns-then-work-count : goal.returns-then-work-count
returns-then-work-count c =
    let args = c.args in
    let call = asked_by args.self.now args.terms.now in
    let given = lent args.work.now args.table.now in
    refused_so _ given _ (room_work (rooms_of 256 given) call args.count c.if-work-count.true)

pub returns-then-table-self : goal.returns-then-table-self
returns-then-table-self c =
    let args = c.args in
    let call = asked_by args.self.now args.terms.now in
    let given = lent args.work.now args.table.now in
    refused_so _ given _ (room_table (rooms_of 256 given) call args.count c.if-work-count.false c.if-table-self.true)

pub returns : goal.returns
returns c =
    let args = c.args in
    let call = asked_by args.self.now args.terms.now in
    let given = lent args.work.now args.table.now in
    assigns_so (λ l. done_by (task_of call args.count)) given (λ l. with_room (rooms_of 256 l) (task_of call args.count)) _ _
    (sym (room_done (rooms_of 256 given) call args.count c.if-work-count.false c.if-table-self.false))
    (rw (rule_of_number args.self.now.rule) c.assign_in.ensures)
