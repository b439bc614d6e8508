-- Step and weight fit 16 bits: there are no more merges than modes, and no weight is above the count of the terms.
use native.Mathlib.Omega.{arith}
use Rattle.history.proofs.RowsAfter.{weight_in_most}
use Rattle.merging.specs.code.State.{history_of}
use Rattle.merging.proofs.Runs.{merges_within}
use Rattle.obeying.proofs.by_hand.complete.Goals as goal

pub overflow_cast-result : goal.overflow_cast-result
overflow_cast-result c =
    let holds = c.requires.1 in
    omega (arith, merges_within c.requires.0 _ c.args.run holds, holds.few, c.merges.ensures)

pub overflow_cast-result-2 : goal.overflow_cast-result-2
overflow_cast-result-2 c =
    let job = c.requires.0 in
    let holds = c.requires.1 in
    omega (arith, weight_in_most job (history_of c.args.run) c.args.triple, holds.light, c.weight_of.ensures job holds)
