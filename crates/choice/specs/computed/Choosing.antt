-- The choice of a round as a computation: it is the one that `Chosen` describes (`chosen-right`, `chosen-one`).
use Rattle.std.specs.Prelude.{Bool, ◌&&◌, ◌||◌, List, ℕ, eqb, ltb}
use Rattle.lists.specs.Least.{best_of}
use Rattle.entities.specs.declared.Triple.{Triple}
use Rattle.terms.specs.Weight.{weight_of}
use Rattle.choice.specs.Choice.{Choice, candidates}

-- "largest z, y, x": the first triple is larger.
unfoldable pub larger : Triple → Triple → Bool
larger t u =
    ltb u.z t.z || (eqb u.z t.z && (ltb u.y t.y || (eqb u.y t.y && ltb u.x t.x)))

-- "Least weight, then largest z, y, x": the first choice is better.
unfoldable pub better : List (List ℕ) → Choice → Choice → Bool
better rows c d =
    ltb (weight_of c.triple rows) (weight_of d.triple rows)
    || (eqb (weight_of c.triple rows) (weight_of d.triple rows) && larger c.triple d.triple)

-- The choice of a round, as a computation: the best, the first of several; where there is no candidate, node 0 and three zeros.
unfoldable pub chosen : ℕ → List ℕ → ℕ → List ℕ → List (List ℕ) → Choice
chosen modes table heuristic assigned rows =
    best_of (better rows) (record { node = 0; triple = record { x = 0; y = 0; z = 0 } }) (candidates modes table heuristic assigned)
