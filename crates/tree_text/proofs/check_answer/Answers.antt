-- What was found is printed over zeros.
use borrow.Author.Rules.{rules}
use Rattle.text.proofs.PrintedLines.{lent_prints}
use Rattle.tree_text.specs.Answers.{check_text}
use Rattle.tree_text.proofs.check_answer.Goals as goal

pub returns : goal.returns
unfolding check_text
returns c =
    let ran = c.by.ensures in
    rw (← c.check_said-found.ensures) (lent_prints ran.shows ran.leaves (search rules))
