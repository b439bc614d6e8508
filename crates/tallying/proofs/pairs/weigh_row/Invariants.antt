-- The table follows what the leaves weigh beside z in the numbers passed; at the end these are all.
use mathlib.Core.Path.{◌≡◌}
use Prim.Native.Nat.{ℕ, ◌<◌, ◌+◌}
use lib.ListN.{length, get_or, take}
use Rattle.tallying.specs.code.Tallies.{AllBelow}
use Rattle.tallying.specs.code.Pairs.{beside}
use Rattle.tallying.proofs.pairs.weigh_row.Given as goal

abbrev pub invariant-loop-at : goal.invariant-loop-at
invariant-loop-at l = (length l.table ≡ length l.initial.table)
    × ((k : ℕ) → k < length l.initial.table → get_or l.table k 0 + l.odd ≡ get_or l.initial.table k 0 + beside l.odd k (take l.at l.term))
    × AllBelow l.term l.at l.bound
