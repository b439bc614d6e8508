-- The weight of the rows passed and of those ahead is the weight of all.
use Rattle.std.proofs.Common.{◌≡◌, ◌≤◌, ◌-◌, ◌+◌, ◌*◌, drop}
use Rattle.terms.specs.Rows.{terms_of}
use Rattle.tree_weight.specs.Weight.{listed_weight}
use Rattle.tree_weight.proofs.rows_weight.Given as goal

abbrev pub invariant-loop-place : goal.invariant-loop-place
invariant-loop-place l = (l.sum ≤ 256 * l.place)
    × (l.sum + listed_weight l.placed.modes l.placed.tree.now (terms_of 9 (l.count - l.place) (drop (9 * l.place) l.terms)) ≡ listed_weight l.placed.modes l.placed.tree.now (terms_of 9 l.count l.terms))
