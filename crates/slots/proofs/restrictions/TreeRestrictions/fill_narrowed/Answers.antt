-- By the heuristic.
use Rattle.std.proofs.Common.{◌∙◌, length, drop}
use Prim.Native.Nat.{◌-◌}
use native.Mathlib.Omega.{arith}
use lib.Seq.{take_all}
use lib.ListN.{length-drop}
use Rattle.slots.specs.Nodes.{narrowed}
use Rattle.slots.proofs.restrictions.TreeRestrictions.fill_narrowed.Goals as goal

pub returns-in-MinWeight : goal.returns-in-MinWeight
unfolding narrowed
returns-in-MinWeight c = rw c.in-MinWeight.is c.fill_firsts.ensures

pub returns-in-XFirst : goal.returns-in-XFirst
unfolding narrowed
returns-in-XFirst c = rw c.in-XFirst.is c.fill_one.ensures

pub returns-in-ZFirst : goal.returns-in-ZFirst
unfolding narrowed
returns-in-ZFirst c =
    let far = c.args.far.now in
    let last = rw c.saturating_sub.ensures at c.fill_one-in-ZFirst.ensures in
    rw c.in-ZFirst.is (last.0, last.1 ∙ take_all 1 (drop (length far - 1) far) (simp length-drop (omega arith)))
