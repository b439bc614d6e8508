-- An empty journal is read.
use borrow.Author.Rules.{rules}
use Rattle.text.specs.Output.{answer_text}
use Rattle.text.proofs.answer.Goals as goal

pub returns : goal.returns
unfolding answer_text
returns c = search rules
