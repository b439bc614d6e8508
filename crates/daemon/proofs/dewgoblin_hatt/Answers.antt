-- An empty journal is read.
use Rattle.daemon.specs.Calls.{hatt_called}
use Rattle.daemon.proofs.dewgoblin_hatt.Goals as goal

pub returns : goal.returns
unfolding hatt_called
returns c = c.resume_bytes.ensures
