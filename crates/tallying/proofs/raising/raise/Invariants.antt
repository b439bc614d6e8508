-- The table is raised by the parities of the numbers passed; at the end these are all.
use mathlib.Core.Path.{◌≡◌}
use Prim.Native.Nat.{ℕ, ◌<◌, ◌+◌, ◌%◌}
use lib.ListN.{length, get_or, take}
use Rattle.lists.specs.Counting.{occurrences}
use Rattle.tallying.specs.code.Tallies.{AllBelow}
use Rattle.tallying.proofs.raising.raise.Given as goal

abbrev pub invariant-loop-at : goal.invariant-loop-at
invariant-loop-at l = (length l.table ≡ length l.initial.table)
    × ((n : ℕ) → n < length l.initial.table → get_or l.table n 0 ≡ get_or l.initial.table n 0 + occurrences n (take l.at l.term) % 2)
    × AllBelow l.term l.at l.bound
