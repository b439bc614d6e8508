-- A merge was written down for each step.
use mathlib.Core.Path.{sym}
use Rattle.merging.proofs.Recording.{length_recorded}
use Rattle.merging.proofs.asked.merges.Goals as goal

pub returns : goal.returns
returns c =
    let run = c.args.run in
    sym (length_recorded run.merges run.step)
