-- The run goes on to its end; its rows, its new lines and the zeros are written, and nothing refuses.
use native.Mathlib.Omega.{arith}
use Rattle.merging.proofs.Runs.{merges_within}
use Rattle.journal.proofs.RunEnds.{at_the_end, text_fits, ends}
use Rattle.journal.proofs.resuming.finish_run.Goals as goal

pub write_flatpack-requires : goal.write_flatpack-requires
write_flatpack-requires c =
    let job = c.requires.0 in
    let given = c.requires.1 in
    let finished = c.finished-end in
    let gone = finished.ensures job given.holds in
    (job, (_, (gone.holds, at_the_end job c.args.work.now _ c.args.run finished.result given.holds gone, omega (arith, given.rows_room))))

pub put_drops-requires : goal.put_drops-requires
put_drops-requires c =
    let job = c.requires.0 in
    let given = c.requires.1 in
    let finished = c.finished-end in
    let gone = finished.ensures job given.holds in
    let all = at_the_end job c.args.work.now _ c.args.run finished.result given.holds gone in
    (job, (_, (gone.holds, omega (arith, all, given.drops_room))))

pub write_new-new-requires : goal.write_new-new-requires
write_new-new-requires c =
    let job = c.requires.0 in
    let given = c.requires.1 in
    let finished = c.finished-end in
    let gone = finished.ensures job given.holds in
    let from = c.merges-from.ensures in
    (job, (_, text_fits job c.args.work.now _ c.args.run finished.result given.holds gone _ from _ _ given.journal_room))

pub overflow_sub-modes : goal.overflow_sub-modes
overflow_sub-modes c =
    let pre = c.requires in
    omega (arith, c.merges-from.ensures, merges_within pre.0 _ c.args.run pre.1.holds, c.modes.ensures pre.0 _ pre.1.holds)

pub returns : goal.returns
returns c job bytes given kept_is =
    let args = c.args in
    let finished = c.finished-end in
    let gone = finished.ensures job given.holds in
    let from = c.merges-from.ensures in
    let text = text_fits job args.work.now _ args.run finished.result given.holds gone _ from args.kept _ given.journal_room in
    ends job args.work.now _ args.run finished.result given.holds gone _ from _ _ args.kept _ bytes
    args.rows.now args.journal.now args.drops.now _ _ _ _ kept_is (c.greedy_weight.ensures job _ gone.holds)
    (c.write_flatpack.ensures job _ gone.holds)
    (c.write_new-new.ensures job _ text)
    (c.put_drops.ensures job _ gone.holds)
    (rw (c.count.ensures job _ given.holds) at c.clear_front.ensures)
    (rw (c.modes.ensures job _ given.holds) at c.trial_total.ensures)
