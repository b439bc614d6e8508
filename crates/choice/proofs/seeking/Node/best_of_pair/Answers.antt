-- What was counted gives each weight.
use Rattle.std.proofs.Common.{arith}
use Rattle.terms.proofs.RowSteps.{length_terms}
use Rattle.tallying.proofs.RowsTallied.{looked_up}
use Rattle.choice.proofs.seeking.Node.best_of_pair.Goals as goal

pub invariant_of-counted-clause-all_fits : goal.invariant_of-counted-clause-all_fits
invariant_of-counted-clause-all_fits c =
    let told = rw c.in-Some.is at c.tally_couple.ensures in
    omega (arith, told.0, length_terms 8 c.args.self.now.among.now.gathered.count c.args.self.now.among.now.gathered.rows.now)

pub invariant_of-counted-clause-looked : goal.invariant_of-counted-clause-looked
invariant_of-counted-clause-looked c =
    looked_up _ _ _ c.limit_past-limit.result _ _ 512 _ _ c.args.self.now.among.now.odds_are c.tally_couple.auto.less
    (rw c.in-Some.is at c.tally_couple.ensures)
