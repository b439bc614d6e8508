-- An entity without a couple names nothing; a couple that a lower one named is settled; of any other the couple's triples follow.
use mathlib.Core.Path.{sym, ◌∙◌}
use Rattle.choosing.specs.code.Couples.{beside_couple}
use Rattle.choosing.proofs.SeekSteps.{seek_none}
use Rattle.choosing.proofs.SettledBest.{seek_idle}
use Rattle.choosing.proofs.seeking.Seeking.best_with.Goals as goal

pub returns-in_default : goal.returns-in_default
unfolding beside_couple
returns-in_default c history tied settled =
    rw (sym (c.couple_of.ensures history tied) ∙ c.in_default.is) (sym (seek_none _ _))

pub returns-then-named_before : goal.returns-then-named_before
returns-then-named_before c history tied settled =
    let named = sym (c.couple_of.ensures history tied) ∙ c.in-Some.is in
    let lower = c.named_before.ensures _ history tied.ends_are tied.holders_are named c.if-named_before.true in
    sym (seek_idle _ _ _ (rw (lower.1.1 ∙ sym named) at (settled lower.0 lower.1.0)))

pub returns : goal.returns
unfolding beside_couple
returns c history tied settled =
    rw (sym (c.couple_of.ensures history tied) ∙ c.in-Some.is)
    (c.best_of_couple.ensures history tied)
