-- The rows are those after the history.
use Rattle.history.specs.Choice.{weight_in}
use Rattle.merging.proofs.RowsHeld.{terms_are}
use Rattle.merging.proofs.asked.weight_of.Goals as goal

pub returns : goal.returns
unfolding weight_in
returns c job holds =
    let args = c.args in
    rw (← terms_are 769 256 job args.rows.now args.run holds) c.weight.ensures.0
