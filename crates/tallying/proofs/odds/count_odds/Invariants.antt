-- In the rows passed and in those ahead a number is odd in as many rows as in all.
use mathlib.Core.Path.{◌≡◌}
use Prim.Native.Nat.{ℕ, ◌≤◌, ◌<◌, ◌-◌, ◌+◌, ◌*◌}
use lib.ListN.{length, get_or, drop}
use Rattle.terms.specs.Rows.{terms_of}
use Rattle.tallying.specs.code.Tallies.{odds}
use Rattle.tallying.proofs.odds.count_odds.Given as goal

abbrev pub invariant-loop-place : goal.invariant-loop-place
invariant-loop-place l = (l.place ≤ l.gathered.count)
    × (length l.table ≡ length l.initial.table)
    × ((n : ℕ) → n < length l.initial.table → get_or l.table n 0 ≤ l.place)
    × ((n : ℕ) → n < length l.initial.table
    → get_or l.table n 0 + odds n (terms_of 8 (l.gathered.count - l.place) (drop (8 * l.place) l.gathered.rows.now)) ≡ odds n (terms_of 8 l.gathered.count l.gathered.rows.now))
