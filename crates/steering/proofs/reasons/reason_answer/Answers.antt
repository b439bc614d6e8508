-- The answer was put over zeros.
use borrow.Author.Rules.{rules}
use Rattle.text.proofs.PrintedLines.{lent_prints}
use Rattle.steering.proofs.reasons.reason_answer.Goals as goal

pub returns : goal.returns
returns c = let ran = c.by.ensures in lent_prints ran.shows ran.leaves (search rules)
