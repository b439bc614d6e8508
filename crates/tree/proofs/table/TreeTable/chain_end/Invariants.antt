-- The steps left from here end where all of them do.
use Rattle.std.proofs.Common.{◌≡◌, ◌-◌}
use Rattle.tree.specs.Pairs.{chain_end}
use Rattle.tree.proofs.table.TreeTable.chain_end.Given as goal

abbrev pub invariant-loop : goal.invariant-loop
invariant-loop l = chain_end l.self.modes l.self.tree.now l.self.modes l.code ≡ chain_end l.self.modes l.self.tree.now (l.self.modes - l.counter) l.at
