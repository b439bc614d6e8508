-- The word decides.
use mathlib.Core.Path.{sym, ◌∙◌}
use Rattle.dewgoblin.specs.Commands.{rule_named}
use Rattle.dewgoblin.proofs.rule_named.Goals as goal

pub returns-then-same_bytes : goal.returns-then-same_bytes
unfolding rule_named
returns-then-same_bytes c = rw (sym c.same_bytes.ensures ∙ c.if-same_bytes.true)

pub returns : goal.returns
unfolding rule_named
returns c = rw (sym c.same_bytes.ensures ∙ c.if-same_bytes.false)
