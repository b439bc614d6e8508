-- The steps left from here arrive where all of them do.
use Rattle.std.proofs.Common.{◌≡◌, ◌-◌}
use Rattle.tree.specs.Table.{climb}
use Rattle.tree.proofs.table.climb.Given as goal

abbrev pub invariant-loop : goal.invariant-loop
invariant-loop l = climb l.table l.steps l.node ≡ climb l.table (l.steps - l.counter) l.at
