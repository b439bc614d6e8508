-- One sequence after the other; the first leads before any was met.
use Rattle.best.specs.code.Numbered.{Led}
use Rattle.best.proofs.search.Operators.lightest.Given as goal

abbrev pub invariant-loop-number : goal.invariant-loop-number
invariant-loop-number l = Led l.self.modes l.self.count l.self.rows.now l.number l.lead
