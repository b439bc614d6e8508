-- A run has no more merges than modes, so there is a number for the next line.
use native.Mathlib.Omega.{arith}
use Rattle.merging.proofs.Runs.{merges_within}
use Rattle.obeying.proofs.judging.line_after.Goals as goal

pub overflow_add-result : goal.overflow_add-result
overflow_add-result c =
    let holds = c.requires.1 in
    omega (arith, merges_within c.requires.0 _ c.args.run holds, holds.few, c.merges.ensures)
