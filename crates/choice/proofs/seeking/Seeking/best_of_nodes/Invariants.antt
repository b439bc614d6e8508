-- The choices of the nodes still to come give the answer.
use Rattle.std.proofs.Common.{◌≡◌, drop}
use Rattle.choice.specs.code.Seeking.{sought_among, worst}
use Rattle.choice.proofs.seeking.Seeking.best_of_nodes.Given as goal

abbrev pub invariant-loop-number : goal.invariant-loop-number
invariant-loop-number l = sought_among l.self (worst l.self.gathered.count) l.active ≡ sought_among l.self l.best (drop l.number-index l.active)
