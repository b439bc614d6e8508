-- The choice among the rows that are there, its weight, its leaves fixed, the rows reduced.
use Rattle.slots.specs.Heuristics.{heuristic_number}
use Rattle.std.proofs.Common.{◌≡◌, ◌∙◌, ap, ◌+◌, ◌*◌, arith}
use Rattle.terms.specs.Rows.{terms_of}
use Rattle.terms.specs.Weight.{weight_of}
use Rattle.reduction.specs.Reduction.{reduction}
use Rattle.reduction.proofs.AsTold.{live_weight}
use Rattle.reduction.proofs.ReducedCounts.{reduced_terms, reduced_worked}
use Rattle.choice.specs.computed.Choosing.{chosen}
use Rattle.choice.specs.code.Seeking.{choice_of}
use Rattle.topphatt.specs.code.Going.{task_with, state_of}
use Rattle.topphatt.proofs.RoundSteps.{stepped, chosen_live}
use Rattle.topphatt.proofs.task.Ready.round.Goals as goal

pub returns : goal.returns
unfolding choice_of state_of
returns c =
    let pre = c.requires in
    let args = c.args in
    let there = c.put_live-kept.ensures in
    let chose = c.choose-selection in
    let light = c.chosen_weight-weight.ensures in
    let fixing = c.fix_all.ensures in
    let node = c.from.ensures in
    let parent = c.parent_number-parent.ensures in
    let reduced = c.reduce_hamiltonian.ensures in
    let terms = terms_of 9 args.count args.rows.now in
    let triple = chose.result.leaf_indices in
    let right : choice_of chose.result ≡ chosen args.self.now.task.modes args.self.now.task.tree.now (heuristic_number args.self.now.task.heuristic) args.assigned.now terms =
    chose.ensures.right
    ∙ ap (chosen args.self.now.task.modes args.self.now.task.tree.now (heuristic_number args.self.now.task.heuristic) args.assigned.now) there.terms
    ∙ chosen_live args.self.now.task.modes args.self.now.task.tree.now (heuristic_number args.self.now.task.heuristic) args.assigned.now terms in
    record {
      right = λ first weight.
          stepped (task_with args.self.now.task first) args.count args.rows.now args.assigned.now weight _ _ _
          (choice_of chose.result) right fixing.right
          (reduced_terms _ _ _ _ _ _ _ reduced ∙ ap (λ p. reduction args.self.now.task.rule triple p terms) (parent ∙ ap (λ n. 2 * args.self.now.task.modes + 1 + n) node))
          (light.0 ∙ ap (weight_of triple) there.terms ∙ live_weight triple terms);
      light = omega (arith, light.1, there.at_most, pre.fits);
      going = record {
        pairs = fixing.pairs;
        fits = pre.fits;
        worked = reduced_worked _ _ _ _ _ _ _ reduced pre.worked;
      };
      rest = reduced.rest;
    }
