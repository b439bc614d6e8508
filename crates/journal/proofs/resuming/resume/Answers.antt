-- Each return is one arm of the meaning, by the modes, the rule and what the check of the terms answered.
use mathlib.Core.Path.{◌∙◌, sym}
use Rattle.terms.proofs.GoodTerms.{accepted}
use Rattle.journal.specs.Resuming.{with_terms, resumed}
use Rattle.journal.specs.Promises.{lent}
use Rattle.journal.proofs.JournalAnswered.{nothing_altered}
use Rattle.refusal.proofs.Told.{handed_on}
use Rattle.journal.proofs.resuming.resume.Goals as goal

pub returns-in_err-check_modes : goal.returns-in_err-check_modes
unfolding resumed
returns-in_err-check_modes c =
    let args = c.args in
    let refused = c.in_err-check_modes.ensures.said in
    rw (handed_on c.from_residual.ensures, refused.1)
    (nothing_altered _ (lent args.work.now args.rows.now args.journal.now args.drops.now) _ (rw refused.0))

pub returns-in_err-rule : goal.returns-in_err-rule
unfolding resumed
returns-in_err-rule c =
    let args = c.args in
    let refused = c.in_err-rule.ensures in
    rw (handed_on c.from_residual-in_err-rule.ensures, refused.1)
    (nothing_altered _ (lent args.work.now args.rows.now args.journal.now args.drops.now) _
    (rw (c.in_ok-check_modes.ensures.said, refused.0)))

pub invariant_of-size : goal.invariant_of-size
invariant_of-size c =
    let between = c.in_ok-check_modes.ensures.between in
    let counted = sym c.check_terms.ensures.answer ∙ c.in_ok-count.was in
    record { some = between.0; few = between.1; light = (accepted c.args.modes c.args.terms.now c.in_ok-count.count counted).at_most }

pub returns-in_err-count : goal.returns-in_err-count
unfolding resumed with_terms
returns-in_err-count c =
    let args = c.args in
    rw (handed_on c.from_residual-in_err-count.ensures)
    (nothing_altered _ (lent args.work.now args.rows.now args.journal.now args.drops.now) _
    (rw (
      c.in_ok-check_modes.ensures.said,
      c.in_ok-rule.ensures.0,
      sym c.check_terms.ensures.answer ∙ c.in_err-count.was,
    )))

pub returns : goal.returns
unfolding resumed
returns c =
    rw (
      c.in_ok-check_modes.ensures.said,
      c.in_ok-rule.ensures.0,
      sym c.check_terms.ensures.answer ∙ c.in_ok-count.was,
      sym c.in_ok-rule.ensures.1,
    )
    c.resume_good.ensures
