-- The first sequence is there; it leads, and is counted when it is met.
use Rattle.best.proofs.LeadOn.{lead_starts}
use Rattle.best.proofs.search.Operators.start.Goals as goal

pub returns : goal.returns
returns c = let own = c.args.self.now in lead_starts own.modes own.count own.rows.now _ c.weigh_nth.ensures
