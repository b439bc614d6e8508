-- What a merge weighed was noted with it.
use Prim.Native.Nat.{◌<◌}
use native.Mathlib.Omega.{arith}
use Rattle.merging.proofs.StateAsked.{step_in, weight_noted}
use Rattle.merging.proofs.asked.step_weight.Goals as goal
use Rattle.merging.proofs.asked.step_weight.Goals.{Start}

in_tables : (c : Start) → c.args.step < 256
in_tables c = step_in 769 256 c.requires.0 c.requires.1.0 c.args.run c.requires.1.1.0 c.args.step c.requires.1.1.1

pub offset_bounds-run-step : goal.offset_bounds-run-step
offset_bounds-run-step c = omega (arith, in_tables (goal.at.offset_bounds-run-step c).Start)

pub bounds-run-step : goal.bounds-run-step
bounds-run-step c = in_tables (goal.at.bounds-run-step c).Start

pub returns : goal.returns
returns c job rows holds =
    weight_noted 769 256 job rows c.args.run holds c.args.step c.requires.1.1.1
