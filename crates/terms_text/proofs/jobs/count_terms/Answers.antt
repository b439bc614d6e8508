-- The modes are looked at first, and then the terms.
use Rattle.refusal.proofs.Told.{handed_on}
use Rattle.terms_text.specs.Jobs.{counted}
use Rattle.terms_text.proofs.jobs.count_terms.Goals as goal

pub returns-in_err-check_modes : goal.returns-in_err-check_modes
unfolding counted
returns-in_err-check_modes c =
    let refused = c.in_err-check_modes.ensures.said in
    rw (handed_on c.from_residual.ensures, refused.1, refused.0)

pub returns : goal.returns
unfolding counted
returns c = rw (c.in_ok-check_modes.ensures.said) c.check_terms.ensures.answer
