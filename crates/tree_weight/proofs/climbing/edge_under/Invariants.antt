-- The steps left from here find the edge that all of them do; each place read is the code's.
use Rattle.std.proofs.Common.{◌≡◌, ◌-◌, ◌<◌, length}
use Rattle.tree_weight.specs.Weight.{edge_under}
use Rattle.tree_weight.proofs.climbing.edge_under.Given as goal

abbrev pub invariant-loop : goal.invariant-loop
invariant-loop l = (l.at < length l.tree) × (edge_under l.tree l.steps l.node l.code ≡ edge_under l.tree (l.steps - l.counter) l.node l.at)
