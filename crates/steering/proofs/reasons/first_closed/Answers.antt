-- Each that is open is passed over.
use mathlib.Core.Path.{sym, ◌∙◌}
use Rattle.steering.specs.Reasons.{first_closed}
use Rattle.steering.proofs.reasons.first_closed.Goals as goal

pub returns-then-not-is_open : goal.returns-then-not-is_open
unfolding first_closed
returns-then-not-is_open c job rows holds = rw (sym (c.is_open.ensures job rows holds) ∙ c.if-not-is_open.true)

pub returns-then-not-is_open-2 : goal.returns-then-not-is_open-2
unfolding first_closed
returns-then-not-is_open-2 c job rows holds =
    rw (
      sym (c.is_open.ensures job rows holds) ∙ c.if-not-is_open.false,
      sym (c.is_open-2.ensures job rows holds) ∙ c.if-not-is_open-2.true,
    )

pub returns : goal.returns
unfolding first_closed
returns c job rows holds =
    rw (
      sym (c.is_open.ensures job rows holds) ∙ c.if-not-is_open.false,
      sym (c.is_open-2.ensures job rows holds) ∙ c.if-not-is_open-2.false,
    )
