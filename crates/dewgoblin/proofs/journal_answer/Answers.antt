-- The name decides which answer is given.
use mathlib.Core.Path.{sym, ◌∙◌}
use Rattle.dewgoblin.specs.Commands.{journal_command}
use Rattle.dewgoblin.proofs.journal_answer.Goals as goal

pub returns-then-same_bytes : goal.returns-then-same_bytes
unfolding journal_command
returns-then-same_bytes c = rw (sym c.same_bytes.ensures ∙ c.if-same_bytes.true) c.resume_answer.ensures

pub returns-then-same_bytes-2 : goal.returns-then-same_bytes-2
unfolding journal_command
returns-then-same_bytes-2 c =
    rw (
      sym c.same_bytes.ensures ∙ c.if-same_bytes.false,
      sym c.same_bytes-2.ensures ∙ c.if-same_bytes-2.true,
    )
    c.steer_answer.ensures

pub returns-then-same_bytes-3 : goal.returns-then-same_bytes-3
unfolding journal_command
returns-then-same_bytes-3 c =
    rw (
      sym c.same_bytes.ensures ∙ c.if-same_bytes.false,
      sym c.same_bytes-2.ensures ∙ c.if-same_bytes-2.false,
      sym c.same_bytes-3.ensures ∙ c.if-same_bytes-3.true,
    )
    c.reason_answer.ensures

pub returns-then-same_bytes-4 : goal.returns-then-same_bytes-4
unfolding journal_command
returns-then-same_bytes-4 c =
    rw (
      sym c.same_bytes.ensures ∙ c.if-same_bytes.false,
      sym c.same_bytes-2.ensures ∙ c.if-same_bytes-2.false,
      sym c.same_bytes-3.ensures ∙ c.if-same_bytes-3.false,
      sym c.same_bytes-4.ensures ∙ c.if-same_bytes-4.true,
    )
    c.drops_answer.ensures

pub returns : goal.returns
unfolding journal_command
returns c =
    rw (
      sym c.same_bytes.ensures ∙ c.if-same_bytes.false,
      sym c.same_bytes-2.ensures ∙ c.if-same_bytes-2.false,
      sym c.same_bytes-3.ensures ∙ c.if-same_bytes-3.false,
      sym c.same_bytes-4.ensures ∙ c.if-same_bytes-4.false,
    )
    c.continue_answer.ensures
