-- X, Y and Z, each on what the one before left.
use Rattle.choice.specs.code.Seeking.{choice_of}
use Rattle.topphatt.specs.Rounds.{fixed_by}
use Rattle.topphatt.proofs.task.Task.fix_all.Goals as goal

pub returns : goal.returns
unfolding fixed_by choice_of
returns c =
    let one = c.fix.ensures in
    let two = c.fix-2.ensures in
    let three = c.fix-3.ensures in
    let node = c.from-node.ensures in
    record { pairs = three.0; right = rw (← node, ← one.1, ← two.1) three.1 }
