-- An empty journal is read.
use Rattle.journal.specs.Resuming.{hatt_run}
use Rattle.journal.proofs.resuming.hatt.Goals as goal

pub returns : goal.returns
unfolding hatt_run
returns c = c.resume.ensures
