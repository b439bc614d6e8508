-- The name decides which tree's strings are given.
use mathlib.Core.Path.{sym, ◌∙◌}
use Rattle.dewgoblin.specs.Commands.{strings_command}
use Rattle.dewgoblin.proofs.strings_answer.Goals as goal

pub returns-then-same_bytes : goal.returns-then-same_bytes
unfolding strings_command
returns-then-same_bytes c = rw (sym c.same_bytes.ensures ∙ c.if-same_bytes.true) c.tree_strings_answer.ensures

pub returns : goal.returns
unfolding strings_command
returns c = rw (sym c.same_bytes.ensures ∙ c.if-same_bytes.false) c.hatt_strings_answer.ensures
