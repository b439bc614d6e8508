-- The merge of a step stands in the table at its step.
use Prim.Native.Nat.{◌<◌}
use native.Mathlib.Omega.{arith}
use Rattle.merging.specs.code.Recorded.{merge_at}
use Rattle.merging.proofs.StateAsked.{step_in, merge_noted}
use Rattle.merging.proofs.asked.merge_of.Goals as goal
use Rattle.merging.proofs.asked.merge_of.Goals.{Start}

in_table : (c : Start) → c.args.step < 256
in_table c = step_in 769 256 c.requires.0 c.requires.1.0 c.args.run c.requires.1.1.0 c.args.step c.requires.1.1.1

pub offset_bounds-run-step : goal.offset_bounds-run-step
offset_bounds-run-step c = omega (arith, in_table (goal.at.offset_bounds-run-step c).Start)

pub bounds-run-step : goal.bounds-run-step
bounds-run-step c = in_table (goal.at.bounds-run-step c).Start

pub returns : goal.returns
unfolding merge_at
returns c =
    let pre = c.requires in
    merge_noted 769 256 pre.0 pre.1.0 c.args.run pre.1.1.0 c.args.step pre.1.1.1
