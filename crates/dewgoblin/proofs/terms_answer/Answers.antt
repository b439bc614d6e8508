-- The name decides which answer is given.
use mathlib.Core.Path.{sym, ◌∙◌}
use Rattle.dewgoblin.specs.Commands.{terms_command}
use Rattle.dewgoblin.proofs.terms_answer.Goals as goal

pub returns-then-same_bytes : goal.returns-then-same_bytes
unfolding terms_command
returns-then-same_bytes c = rw (sym c.same_bytes.ensures ∙ c.if-same_bytes.true) c.best_answer.ensures

pub returns : goal.returns
unfolding terms_command
returns c = rw (sym c.same_bytes.ensures ∙ c.if-same_bytes.false) c.answer.ensures
