-- By what the check of the terms answered.
use mathlib.Core.Path.{refl, sym, ◌∙◌}
use Rattle.refusal.proofs.Told.{handed_on}
use Rattle.terms.proofs.GoodTerms.{accepted}
use Rattle.topphatt.specs.Answer.{with_terms}
use Rattle.topphatt.proofs.Answers.{refused_so}
use Rattle.topphatt.proofs.task.Task.assign_accepted.Goals as goal

pub assign_good-requires : goal.assign_good-requires
assign_good-requires c =
    let counted = sym c.check_terms.ensures.answer ∙ c.in_ok-count.was in
    let rows = accepted c.args.self.now.modes c.args.terms.now c.in_ok-count.count counted in
    record {
      count_le_most_terms = rows.at_most;
      given = rows.given;
    }

pub returns-in_err-count : goal.returns-in_err-count
unfolding with_terms
returns-in_err-count c =
    rw (sym c.check_terms.ensures.answer ∙ c.in_err-count.was, handed_on c.from_residual.ensures) (refused_so _ _ _ refl)

pub returns : goal.returns
unfolding with_terms
returns c = rw (sym c.check_terms.ensures.answer ∙ c.in_ok-count.was) c.assign_good.ensures
