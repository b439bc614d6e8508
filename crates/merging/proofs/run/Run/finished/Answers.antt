-- A step more leads to the same end.
use Rattle.std.proofs.Common.{◌≡◌, ◌<◌, ◌≤◌, ◌∙◌, ap, arith, length}
use Rattle.merging.specs.declared.run.Run.{Run}
use Rattle.merging.specs.code.State.{history_of}
use Rattle.merging.proofs.Recording.{length_recorded}
use Rattle.merging.proofs.Runs.{went_on, went_here, finished_on, finished_already}
use Rattle.merging.proofs.run.Run.finished.Goals as goal

steps_made : (run : Run) → length (history_of run) ≡ run.step
steps_made run = length_recorded run.merges run.step

pub loop-preserved : goal.loop-preserved
loop-preserved c job holds =
    let run = c.loop.run in
    let next = c.stepped-run.result in
    let so_far = c.loop.invariant job holds in
    let went = c.stepped-run.ensures job so_far.1.holds in
    let left : length (history_of run) < job.modes = omega (arith, steps_made run, so_far.0, holds.modes_are) in
    let one_more = ap length went.merges in (
      omega (arith, steps_made run, steps_made next, so_far.0),
      went_on job _ (history_of next) run next c.args.rows.now c.loop.rows _ so_far.1 (went_here job _ next c.loop.rows _ went),
      rw went.merges (finished_on job (history_of run) left) ∙ so_far.2,
    )

pub returns : goal.returns
returns c job holds =
    let run = c.loop.run in
    let so_far = c.loop.invariant job holds in
    let all : job.modes ≤ length (history_of run) = omega (arith, steps_made run, so_far.0, holds.modes_are) in
    rw (← so_far.2, finished_already job (history_of run) all) so_far.1
