-- Each way out is the first name that is alike.
use mathlib.Core.Path.{sym, ◌∙◌}
use Rattle.assign_text.specs.Assigning.{heuristic_of}
use Rattle.assign_text.proofs.heuristics.heuristic_of.Goals as goal

pub returns-then-same_bytes : goal.returns-then-same_bytes
unfolding heuristic_of
returns-then-same_bytes c = rw (sym c.same_bytes.ensures ∙ c.if-same_bytes.true)

pub returns-then-same_bytes-2 : goal.returns-then-same_bytes-2
unfolding heuristic_of
returns-then-same_bytes-2 c = rw (sym c.same_bytes.ensures ∙ c.if-same_bytes.false, sym c.same_bytes-2.ensures ∙ c.if-same_bytes-2.true)

pub returns-then-same_bytes-3 : goal.returns-then-same_bytes-3
unfolding heuristic_of
returns-then-same_bytes-3 c = rw (sym c.same_bytes.ensures ∙ c.if-same_bytes.false, sym c.same_bytes-2.ensures ∙ c.if-same_bytes-2.false, sym c.same_bytes-3.ensures ∙ c.if-same_bytes-3.true)

pub returns : goal.returns
unfolding heuristic_of
returns c = rw (sym c.same_bytes.ensures ∙ c.if-same_bytes.false, sym c.same_bytes-2.ensures ∙ c.if-same_bytes-2.false, sym c.same_bytes-3.ensures ∙ c.if-same_bytes-3.false)
