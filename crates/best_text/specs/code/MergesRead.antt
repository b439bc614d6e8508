-- The merges that a sequence's numbers say, x, y and z of each.
use Rattle.std.specs.Prelude.{List, [], ◌∷◌, ◌++◌, ℕ}
use Rattle.entities.specs.declared.Triple.{Triple}

-- The numbers have the oldest merge first, the history the newest.
unfoldable pub merges_in : List ℕ → List Triple
merges_in (x ∷ (y ∷ (z ∷ rest))) = merges_in rest ++ (record { x = x; y = y; z = z } ∷ [])
merges_in _ = []
