-- The codes that pass the test are counted, as each that is the code occurs.
use Rattle.std.proofs.Common.{rules}
use Rattle.std.proofs.iter.runs.Made.{chains}
use Rattle.lists.proofs.Standard.{occurrences_is}
use Rattle.tree.proofs.table.count.Goals as goal

pub returns : goal.returns
returns c = rw occurrences_is (search (rules, chains))
