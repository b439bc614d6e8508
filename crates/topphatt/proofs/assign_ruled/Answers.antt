-- By what the check of the tree answered, then the heuristic.
use mathlib.Core.Path.{◌≡◌, refl, sym, subst, ◌∙◌}
use mathlib.Core.Bool.{true}
use lib.Dec.{leb}
use borrow.Author.Tests.{lt-leb}
use Rattle.refusal.proofs.Told.{handed_on}
use Rattle.tree.proofs.AcceptedParts.{accepted_parts}
use Rattle.slots.specs.declared.heuristics.Heuristic.{Heuristic}
use Rattle.slots.specs.declared.heuristics.Heuristic.TheVariants.{MinWeight, XFirst, ZFirst}
use Rattle.slots.specs.Heuristics.{heuristic_number}
use Rattle.topphatt.specs.Answer.{with_tree}
use Rattle.topphatt.proofs.Answers.{refused_so}
use Rattle.topphatt.proofs.assign_ruled.Goals as goal

pub returns-in_err-heuristic : goal.returns-in_err-heuristic
unfolding with_tree
returns-in_err-heuristic c =
    let refused = c.in_err-heuristic.ensures in
    rw (sym c.check_tree.ensures.answer ∙ c.in_ok-check_tree.was)
    (rw (handed_on c.from_residual-in_err-heuristic.ensures, refused.1, lt-leb c.args.heuristic 2 refused.0) (refused_so _ _ _ refl))

pub invariant_of-task : goal.invariant_of-task
invariant_of-task c =
    let parts = accepted_parts 256 c.args.modes c.args.tree.now (sym c.check_tree.ensures.answer ∙ c.in_ok-check_tree.was) in
    record { some = parts.some; few = parts.few; whole = parts.whole }

pub returns-in_err-check_tree : goal.returns-in_err-check_tree
unfolding with_tree
returns-in_err-check_tree c =
    rw (sym c.check_tree.ensures.answer ∙ c.in_err-check_tree.was, handed_on c.from_residual.ensures) (refused_so _ _ _ refl)

pub returns : goal.returns
unfolding with_tree
returns c =
    let said = c.in_ok-heuristic.ensures in
    let few = subst (λ number. leb number 2 ≡ true) said (number_few c.in_ok-heuristic.heuristic) in
    rw (sym c.check_tree.ensures.answer ∙ c.in_ok-check_tree.was) (rw few (rw said at c.assign_accepted.ensures))
  where
    number_few : (heuristic : Heuristic) → leb (heuristic_number heuristic) 2 ≡ true
    number_few MinWeight = refl
    number_few XFirst = refl
    number_few ZFirst = refl
