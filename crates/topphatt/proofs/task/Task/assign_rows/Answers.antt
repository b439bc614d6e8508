-- No pair has a mode at first.
use native.Mathlib.Omega.{arith}
use Rattle.lists.proofs.Parts.{take_replicate}
use Rattle.topphatt.proofs.task.Task.assign_rows.Goals as goal

pub assign_pairs-requires-clause-count_le_most_terms : goal.assign_pairs-requires-clause-count_le_most_terms
assign_pairs-requires-clause-count_le_most_terms c =
    let modes = c.args.self.now.modes in
    let pre = c.requires.count_le_most_terms in
    (pre.0, take_replicate modes 256 modes (omega arith), pre.1)
