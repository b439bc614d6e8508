-- The good rows passed and those ahead are all the good ones: the loop passes a good row, and stops at the first bad one.
use mathlib.Core.Path.{◌≡◌}
use Prim.Native.Nat.{◌≤◌, ◌+◌, ◌-◌, ◌*◌}
use lib.ListN.{drop}
use Rattle.terms.specs.Good.{good_rows}
use Rattle.terms.proofs.checking.good_rows.Given as goal

abbrev pub invariant-loop-place : goal.invariant-loop-place
invariant-loop-place l = (l.place ≤ l.count)
    × (good_rows (2 * l.modes) l.count l.terms ≡ l.place + good_rows (2 * l.modes) (l.count - l.place) (drop (8 * l.place) l.terms))
