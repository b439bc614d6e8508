-- The lines of the steps passed stand behind the start; at the end they are all.
use mathlib.Core.List.{List}
use Prim.Native.Nat.{ℕ, ◌<◌}
use native.Mathlib.Omega.{arith}
use lib.ListN.{length}
use Rattle.terms.specs.Job.{Job}
use Rattle.merging.specs.code.State.{history_of}
use Rattle.journal.specs.code.NewLines.{StepFits, StepsFit}
use Rattle.journal.proofs.PuttingLines.{putting_starts, next_fits, putting_on}
use Rattle.journal.proofs.new_lines.put_steps.Goals as goal
use Rattle.journal.proofs.new_lines.put_steps.Goals.{After-put_step-arg-1}

-- One line more, of a run of this job.
step_fits : (c : After-put_step-arg-1) (job : Job) (own : List ℕ)
    → StepsFit job own c.args.run c.args.from c.args.start (length c.args.journal.now)
    → StepFits job own c.args.run c.loop-step.step c.loop-step.at (length c.loop-step.journal)
step_fits c job own fits =
    let args = c.args in
    let history = history_of args.run in
    let more : c.loop-step.step < length history = omega (arith, c.loop-step-test.true, c.merges-step-end.ensures) in
    record {
      holds = fits.holds;
      made = more;
      small = omega (arith, more, fits.small);
      fits = next_fits job history args.from args.start args.journal.now fits.fits _ _ _ (c.loop-step.invariant job own fits) more;
    }

pub loop-step-init : goal.loop-step-init
loop-step-init c job own fits =
    let args = c.args in
    putting_starts job (history_of args.run) args.from args.start args.journal.now fits.fits fits.begun

pub put_step-at-requires : goal.put_step-at-requires
put_step-at-requires c =
    let pre = c.requires in
    (pre.0, (pre.1.0, step_fits (goal.at.put_step-at-requires c).After-put_step-arg-1 pre.0 pre.1.0 pre.1.1))

pub loop-step-preserved : goal.loop-step-preserved
loop-step-preserved c job own fits =
    let args = c.args in
    let line = step_fits (goal.at.loop-step-preserved c).After-put_step-arg-1 job own fits in
    let put = c.put_step-at.ensures job own line in
    putting_on job (history_of args.run) args.from args.start args.journal.now fits.fits _ _ _ (c.loop-step.invariant job own fits) line.made _ _
    put.0 put.1
