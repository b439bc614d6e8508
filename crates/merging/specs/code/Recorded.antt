-- The history that a table of merges holds, one for each step.
use Rattle.std.specs.Prelude.{List, [], ◌∷◌, ℕ, zero, suc, get_or}
use Rattle.entities.specs.declared.Triple.{Triple}

-- The merge that the table holds for a step.
unfoldable pub merge_at : List Triple → ℕ → Triple
merge_at merges step = get_or merges step (record { x = 0; y = 0; z = 0 })

-- The first so many merges, newest first.
unfoldable pub recorded : List Triple → ℕ → List Triple
recorded merges zero = []
recorded merges (suc step) = merge_at merges step ∷ recorded merges step
