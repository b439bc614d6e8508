-- The weight of the rows passed and of those ahead is the weight of all.
use mathlib.Core.Path.{◌≡◌}
use Prim.Native.Nat.{◌≤◌, ◌+◌, ◌-◌, ◌*◌}
use lib.ListN.{drop}
use Rattle.terms.specs.Rows.{terms_of}
use Rattle.terms.specs.Weight.{weight_of}
use Rattle.terms.proofs.weight.weight.Given as goal

abbrev pub invariant-loop-place : goal.invariant-loop-place
invariant-loop-place l = (l.place ≤ l.count)
    × (l.sum ≤ l.place)
    × (l.sum + weight_of l.triple (terms_of l.width (l.count - l.place) (drop (l.width * l.place) l.rows)) ≡ weight_of l.triple (terms_of l.width l.count l.rows))
