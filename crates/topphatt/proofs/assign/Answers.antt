-- The modes, then the rule, then what the tree and the terms come to.
use mathlib.Core.Path.{refl, ap, ◌∙◌}
use Rattle.refusal.proofs.Told.{handed_on}
use Rattle.terms.specs.Rules.{rule_number}
use Rattle.terms.proofs.RuleNumbers.{number_of_rule}
use Rattle.topphatt.specs.Answer.{outcome}
use Rattle.topphatt.proofs.Answers.{refused_so}
use Rattle.topphatt.proofs.assign.Goals as goal

pub returns-in_err-check_modes : goal.returns-in_err-check_modes
unfolding outcome
returns-in_err-check_modes c =
    let refused = c.in_err-check_modes.ensures.said in
    rw (handed_on c.from_residual.ensures, refused.1, refused.0) (refused_so _ _ _ refl)

pub returns-in_err-rule : goal.returns-in_err-rule
unfolding outcome
returns-in_err-rule c =
    let refused = c.in_err-rule.ensures in
    rw (handed_on c.from_residual-in_err-rule.ensures, c.in_ok-check_modes.ensures.said, refused.1, refused.0) (refused_so _ _ _ refl)

pub returns : goal.returns
unfolding outcome
returns c =
    let said = c.in_ok-rule.ensures in
    let number = ap rule_number said.1 ∙ number_of_rule c.args.rule said.0 in
    rw (c.in_ok-check_modes.ensures.said, said.0) (rw number at c.assign_ruled.ensures)
