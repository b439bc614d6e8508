-- The rows stand at the front of the work as they stood in the run's own, and the run is finished there.
use Rattle.journal.specs.Promises.{lent}
use Rattle.journal.proofs.InWork.{front_fits, in_work, answers_lent}
use Rattle.journal.proofs.resuming.finish_lent.Goals as goal

pub put_front-requires : goal.put_front-requires
put_front-requires c =
    rw (c.count-end.ensures c.requires.0 _ c.requires.1.holds) (front_fits c.requires.0 _ c.args.own.now _ c.requires.1)

pub finish_run-requires : goal.finish_run-requires
finish_run-requires c =
    let put = rw (c.count-end.ensures c.requires.0 _ c.requires.1.holds) at c.put_front.ensures in
    (c.requires.0, in_work c.requires.0 _ c.args.own.now _ c.requires.1 _ put.to_after put.to_after_2)

pub returns : goal.returns
returns c job bytes from kept_is =
    let args = c.args in
    let given = lent args.work.now args.rows.now args.journal.now args.drops.now in
    let put = rw (c.count-end.ensures job _ from.holds) at c.put_front.ensures in
    let there = in_work job args.run args.own.now given from _ put.to_after put.to_after_2 in
    answers_lent job args.run args.own.now given from _ put.to_after put.to_after_2 bytes _ _
    (c.finish_run.ensures job bytes there kept_is)
