-- Lighter, as light, or heavier.
use Rattle.best.proofs.LeadOn.{lead_taken, lead_shared, lead_kept}
use Rattle.best.proofs.search.Operators.meet.Goals as goal

pub returns-then-weight-lead : goal.returns-then-weight-lead
returns-then-weight-lead c =
    let args = c.args in
    let own = args.self.now in
    lead_taken own.modes own.count own.rows.now args.number c.requires.number_in_bounds args.lead c.requires.led _ c.weigh_nth-weight.ensures c.if-weight-lead.true

pub returns-then-weight-lead-2 : goal.returns-then-weight-lead-2
returns-then-weight-lead-2 c =
    let args = c.args in
    let own = args.self.now in
    lead_shared own.modes own.count own.rows.now args.number c.requires.number_in_bounds args.lead c.requires.led _ c.weigh_nth-weight.ensures c.if-weight-lead-2.true

pub returns : goal.returns
returns c =
    let args = c.args in
    let own = args.self.now in
    lead_kept own.modes own.count own.rows.now args.number c.requires.number_in_bounds args.lead c.requires.led _ c.weigh_nth-weight.ensures c.if-weight-lead.false c.if-weight-lead-2.false
