-- What was found is printed over zeros.
use borrow.Author.Rules.{rules}
use Rattle.text.proofs.PrintedLines.{lent_prints}
use Rattle.tree_text.specs.Answers.{weigh_text}
use Rattle.tree_text.proofs.weigh_answer.Goals as goal

pub returns : goal.returns
unfolding weigh_text
returns c =
    let ran = c.by.ensures in
    rw (← c.weigh_said-found.ensures) (lent_prints ran.shows ran.leaves (search rules))
