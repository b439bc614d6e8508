-- The number leads down the chain of the term's mark: the row that is like the term ends the search, any other is passed.
use Rattle.terms.specs.Rows.{terms_of}
use Rattle.reduction.proofs.ChainedRows.{Seeking}
use Rattle.reduction.proofs.kept_rows.find_like.Given as goal

abbrev pub invariant-loop-at : goal.invariant-loop-at
invariant-loop-at l = Seeking 16384 (terms_of 9 l.count l.rows) l.term l.at

abbrev pub decreases-loop-at : goal.decreases-loop-at
decreases-loop-at l = l.at
