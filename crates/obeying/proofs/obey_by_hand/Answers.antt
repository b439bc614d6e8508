-- The first state holds the call's job, and every line is obeyed from there.
use Rattle.terms.specs.code.Sized.{job_sized}
use Rattle.obeying.specs.Obeying.{obeyed_by_hand}
use Rattle.obeying.proofs.obey_by_hand.Goals as goal

pub obey_lines-verdict-requires : goal.obey_lines-verdict-requires
obey_lines-verdict-requires c =
    let first = c.fresh-run.ensures c.requires.0 c.args.rows.now c.requires.1 in
    (job_sized c.args.size c.requires.0, first.0)

pub returns : goal.returns
unfolding obeyed_by_hand
returns c numbers spread =
    let first = c.fresh-run.ensures numbers c.args.rows.now spread in
    rw first.1 at (c.obey_lines-verdict.ensures (job_sized c.args.size numbers) first.0)
