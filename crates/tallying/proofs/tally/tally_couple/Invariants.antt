-- The rows passed are tallied; the bound leaves the couple, or all rows are passed.
use lib.ListN.{length}
use Rattle.tallying.proofs.RowsTallied.{Tallying}
use Rattle.tallying.proofs.tally.tally_couple.Given as goal

abbrev pub invariant-loop-place : goal.invariant-loop-place
invariant-loop-place l = Tallying l.gathered.count l.gathered.rows.now l.x l.y (length l.initial.less) l.less l.all l.apart l.place
