-- The name decides which answer is given.
use mathlib.Core.Path.{sym, ◌∙◌}
use Rattle.dewgoblin.specs.Commands.{command_text}
use Rattle.dewgoblin.proofs.answer.Goals as goal

pub returns-then-same_bytes : goal.returns-then-same_bytes
unfolding command_text
returns-then-same_bytes c = rw (sym c.same_bytes.ensures ∙ c.if-same_bytes.true) c.check_answer.ensures

pub returns-then-same_bytes-2 : goal.returns-then-same_bytes-2
unfolding command_text
returns-then-same_bytes-2 c =
    rw (
      sym c.same_bytes.ensures ∙ c.if-same_bytes.false,
      sym c.same_bytes-2.ensures ∙ c.if-same_bytes-2.true,
    )
    c.weigh_answer.ensures

pub returns-then-same_bytes-3 : goal.returns-then-same_bytes-3
unfolding command_text
returns-then-same_bytes-3 c =
    rw (
      sym c.same_bytes.ensures ∙ c.if-same_bytes.false,
      sym c.same_bytes-2.ensures ∙ c.if-same_bytes-2.false,
      sym c.same_bytes-3.ensures ∙ c.if-same_bytes-3.true,
    )
    c.assign_answer.ensures

pub returns-then-same_bytes-4 : goal.returns-then-same_bytes-4
unfolding command_text
returns-then-same_bytes-4 c =
    rw (
      sym c.same_bytes.ensures ∙ c.if-same_bytes.false,
      sym c.same_bytes-2.ensures ∙ c.if-same_bytes-2.false,
      sym c.same_bytes-3.ensures ∙ c.if-same_bytes-3.false,
      sym c.same_bytes-4.ensures ∙ c.if-same_bytes-4.true,
    )
    c.letters_answer.ensures

pub returns : goal.returns
unfolding command_text
returns c =
    rw (
      sym c.same_bytes.ensures ∙ c.if-same_bytes.false,
      sym c.same_bytes-2.ensures ∙ c.if-same_bytes-2.false,
      sym c.same_bytes-3.ensures ∙ c.if-same_bytes-3.false,
      sym c.same_bytes-4.ensures ∙ c.if-same_bytes-4.false,
    )
    c.journal_answer.ensures
