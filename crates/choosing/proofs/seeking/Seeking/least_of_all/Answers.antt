-- The candidates of the entities still to come give the answer, and what the entities passed name is settled.
use mathlib.Core.Path.{◌≡◌, sym, ap, ◌∙◌}
use Prim.Native.Nat.{◌+◌, ◌-◌}
use native.Mathlib.Omega.{arith}
use borrow.Author.Count.{below_more}
use Rattle.choosing.specs.code.Couples.{seek, couple, beside_couple, Settled}
use Rattle.choosing.specs.code.Seeking.{measured}
use Rattle.choosing.proofs.Candidates.{candidates_from, candidates_all, candidates_step, candidates_end, named_with, named_with_couple}
use Rattle.choosing.proofs.SeekSteps.{seek_joined, seek_none}
use Rattle.choosing.proofs.SettledBest.{seek_idle, settled_on, nought_settles, sought_below, sought_settles}
use Rattle.choosing.proofs.seeking.Seeking.least_of_all.Goals as goal

pub loop-a-init : goal.loop-a-init
loop-a-init c =
    λ history tied all. (rw (c.none_yet-best.ensures, candidates_all _ history, all), λ lower h. absurd (omega arith))

pub returns-then-best-eq0 : goal.returns-then-best-eq0
returns-then-best-eq0 c history tied all =
    sym ((c.loop-a.invariant history tied all).0 ∙ seek_idle _ _ _ (nought_settles _ c.loop-a.best _ c.if-best-eq0.true))

pub loop-a-preserved : goal.loop-a-preserved
loop-a-preserved c =
    let among = c.args.self.now in
    let measure = measured among in
    let a = c.loop-a.a in
    let best = c.loop-a.best in
    λ history tied all.
    (let so_far = c.loop-a.invariant history tied all in
    let mine = beside_couple among.modes history among.next (couple among.modes history a) in
    let ahead = candidates_from among.modes history (a + 1) (among.next - (a + 1)) in
    let found : c.best_with-best.result ≡ seek measure best mine = c.best_with-best.ensures history tied so_far.1 in
    let named : named_with among.modes history a ≡ mine = rw (named_with_couple among.modes history a, ← all) in (
      so_far.0
          ∙ rw (candidates_step among.modes history a among.next (omega arith))
          (seek_joined measure best (named_with among.modes history a) ahead ∙ ap (λ b. seek measure b ahead) (rw named (sym found))),
      rw found
          (below_more
          (λ lower. Settled measure (seek measure best mine) (beside_couple among.modes history among.next (couple among.modes history lower)))
          a
          (λ lower h. settled_on measure best (seek measure best mine) _ (sought_below measure best mine) (so_far.1 lower h))
          (sought_settles measure best mine)),
    ))

pub returns : goal.returns
returns c history tied all =
    let among = c.args.self.now in
    sym
    ((c.loop-a.invariant history tied all).0
    ∙ rw (candidates_end among.modes history c.loop-a.a among.next (omega arith)) (seek_none _ _))
