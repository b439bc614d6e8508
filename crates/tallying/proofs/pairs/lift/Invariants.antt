-- The numbers passed are lifted, those ahead are as they were.
use Rattle.std.proofs.Common.{◌≡◌, ℕ, ◌≤◌, ◌<◌, ◌-◌, ◌+◌, get_or}
use Rattle.tallying.proofs.pairs.lift.Given as goal

abbrev pub invariant-loop-number : goal.invariant-loop-number
invariant-loop-number l = ((k : ℕ) → k < l.number-index → get_or l.table k 0 ≡ get_or l.initial.table k 0 + l.up - l.down)
    × ((k : ℕ) → l.number-index ≤ k → get_or l.table k 0 ≡ get_or l.initial.table k 0)
