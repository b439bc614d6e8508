-- The terms are refused, or counted.
use mathlib.Core.Path.{refl, sym, ◌∙◌}
use Rattle.refusal.proofs.Told.{handed_on}
use Rattle.terms.proofs.GoodTerms.{accepted}
use Rattle.terms_text.proofs.JobCounted.{counted_good}
use Rattle.terms_text.proofs.JobsRead.{reads_bad, reads_good}
use Rattle.terms_text.proofs.jobs.count_job.Goals as goal

pub returns-in_err-count : goal.returns-in_err-count
returns-in_err-count c =
    let args = c.args in
    rw (handed_on c.from_residual.ensures) (reads_bad args.rule args.modes args.numbers.now _ (sym c.count_terms.ensures ∙ c.in_err-count.was))

pub invariant_of-result : goal.invariant_of-result
invariant_of-result c =
    let args = c.args in
    let good = counted_good 256 args.modes args.numbers.now _ (sym c.count_terms.ensures ∙ c.in_ok-count.was) in
    record { some = good.0; few = good.1; light = (accepted args.modes args.numbers.now _ good.2).at_most }

pub returns : goal.returns
returns c =
    let args = c.args in
    reads_good args.rule args.modes args.numbers.now _ (sym c.count_terms.ensures ∙ c.in_ok-count.was) _ refl refl refl
