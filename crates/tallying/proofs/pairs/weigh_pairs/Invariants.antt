-- Row by row, as in PairsWeighed; then what stands for the rows' number is taken off.
use lib.ListN.{length}
use Rattle.tallying.proofs.PairsWeighed.{Weighing}
use Rattle.tallying.proofs.pairs.weigh_pairs.Given as goal

abbrev pub invariant-loop-place : goal.invariant-loop-place
invariant-loop-place l = Weighing l.count l.gathered.rows.now l.z (length l.initial.table) l.table l.odd l.place
