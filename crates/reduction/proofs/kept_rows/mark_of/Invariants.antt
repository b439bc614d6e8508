-- The mark so far and the numbers ahead give the mark; at the end nothing is ahead.
use mathlib.Core.Path.{◌≡◌}
use Prim.Native.Nat.{◌<◌}
use lib.ListN.{drop}
use Rattle.reduction.specs.code.Marks.{mark_after, mark_of}
use Rattle.reduction.proofs.kept_rows.mark_of.Given as goal

abbrev pub invariant-loop-index : goal.invariant-loop-index
invariant-loop-index l = (l.mark < 16384) × (mark_of 16384 l.term ≡ mark_after 16384 l.mark (drop l.index-index l.term))
