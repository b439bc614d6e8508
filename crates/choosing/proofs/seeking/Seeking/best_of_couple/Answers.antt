-- A couple too heavy with every z changes nothing; of any other the counts give each weight.
use mathlib.Core.Path.{sym}
use native.Mathlib.Omega.{arith}
use Rattle.terms.proofs.RowSteps.{length_terms}
use Rattle.tallying.proofs.RowsTallied.{looked_up}
use Rattle.choosing.specs.code.Couples.{weight_here}
use Rattle.choosing.specs.code.Seeking.{measured}
use Rattle.choosing.proofs.SettledBest.{seek_idle, heavy_settles}
use Rattle.choosing.proofs.seeking.Seeking.best_of_couple.Goals as goal

pub returns-in_default : goal.returns-in_default
unfolding weight_here
returns-in_default c history tied =
    let among = c.args.self.now in
    let named = c.args.named in
    let heavy = rw c.in_default.is at c.tally_couple.ensures in
    sym (seek_idle _ _ _ (heavy_settles (measured among) among.modes history named.x named.y 0 among.next c.args.best heavy))

pub invariant_of-counted : goal.invariant_of-counted
unfolding weight_here
invariant_of-counted c =
    let among = c.args.self.now in
    let named = c.args.named in
    let called = c.tally_couple in
    let told = rw c.in-Some.is at called.ensures in
    let tally = c.in-Some.tally in
    record {
      all_fits = omega (arith, told.0, length_terms 8 among.gathered.count among.gathered.rows.now, among.gathered.light);
      looked = λ z h. looked_up _ named.x named.y c.args.best.weight tally.all tally.apart 769 among.odds.now called.new.less among.odds_are called.auto.less told z h;
      bounded = told.2;
    }

pub returns : goal.returns
returns c history tied = c.best_of_rest.ensures history tied
