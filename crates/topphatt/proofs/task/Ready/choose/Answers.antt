-- The free modes, the round's nodes, and the best over them.
use Rattle.slots.specs.Heuristics.{heuristic_number}
use mathlib.Core.Path.{ap}
use Prim.Native.Nat.{◌+◌, ◌*◌, ◌<◌}
use native.Mathlib.Omega.{arith}
use Rattle.terms.specs.Rows.{terms_of}
use Rattle.terms.proofs.RowSteps.{length_terms}
use Rattle.slots.proofs.NodeBounds.{active_below}
use Rattle.choice.specs.code.Seeking.{choice_of}
use Rattle.choice.proofs.ChosenSought.{over_chosen}
use Rattle.choice.proofs.ChosenBelow.{chosen_below}
use Rattle.topphatt.proofs.task.Ready.choose.Goals as goal
use Rattle.topphatt.proofs.task.Ready.choose.Goals.{After-fill_active-nodes, After-fill_unassigned-unassigned}

pub select-requires-clause-active_value : goal.select-requires-clause-active_value
select-requires-clause-active_value c =
    let task = c.args.self.now.task in
    rw c.fill_active-nodes.ensures.1 (active_below task.modes task.tree.now c.from-heuristic.result c.args.assigned.now)

pub returns : goal.returns
unfolding choice_of
returns c =
    let args = c.args in
    let rows = terms_of 8 args.count args.rows.now in
    let size = length_terms 8 args.count args.rows.now in
    let nodes = c.fill_active-nodes in
    let few : 3 * args.self.now.task.modes + 2 < 65536 = omega arith in
    let found = rw (← rw (nodes.ensures.1, c.from-heuristic.ensures) at c.select.ensures) at
    (over_chosen rows args.count (omega arith) args.self.now.task.modes few args.self.now.task.tree.now (heuristic_number args.self.now.task.heuristic) args.assigned.now) in
    record {
      right = found.right;
      within = rw (ap (λ choice. choice.node) found.right) (chosen_below args.self.now.task.modes args.self.now.task.tree.now (heuristic_number args.self.now.task.heuristic) args.assigned.now rows (omega arith));
      weighs = found.weighs;
    }
