-- Rows that the check accepts are held, so that they can be weighed and reduced.
use mathlib.Core.Path.{sym, ◌∙◌}
use Rattle.terms.proofs.GoodTerms.{accepted}
use Rattle.test_calls.proofs.test_merge.Goals as goal

pub put_merge-requires : goal.put_merge-requires
put_merge-requires c =
    let args = c.args in
    let good =
    accepted args.modes args.terms.now c.in-Ok.count
    (sym c.check_terms.ensures.answer ∙ c.in-Ok.is) in
    record {
      given = good.given;
      count_le_most_terms = good.at_most;
    }
