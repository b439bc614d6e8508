-- The state of a run is its history: the merges so far, newest first. Everything else is read off it.
use Rattle.std.specs.Prelude.{Bool, cond, not, ◌&&◌, ◌||◌, List, [], ◌∷◌, ℕ, ◌-◌, ◌*◌, eqb, leb, length, drop}
use Rattle.entities.specs.declared.Triple.{Triple}
use Rattle.entities.specs.Parents.{parent_number}
use Rattle.terms.specs.Job.{Job}
use Rattle.reduction.specs.Reduction.{reduction}

-- The merge of a step, counted from the oldest: the newest is that of as many steps as came before it.
unfoldable pub merge_of : List Triple → ℕ → Triple
merge_of [] step = record { x = 0; y = 0; z = 0 }
merge_of (merge ∷ history) step = cond (eqb step (length history)) merge (merge_of history step)

-- The merges before a step's: the oldest, as many as there were steps.
abbrev pub history_before : List Triple → ℕ → List Triple
history_before history step = drop (length history - step) history

-- "Its parent is 2n+1+i": the entity that the next merge makes.
unfoldable pub next_parent : ℕ → List Triple → ℕ
next_parent modes history = parent_number modes (length history)

-- The entity is one of the triple's three.
unfoldable pub among : Triple → ℕ → Bool
among triple entity = eqb entity triple.x || (eqb entity triple.y || eqb entity triple.z)

-- "Open entities start as all leaves"; a merge closes its three and opens its parent.
unfoldable pub is_open : ℕ → List Triple → ℕ → Bool
is_open modes [] entity = leb entity (2 * modes)
is_open modes (merge ∷ history) entity =
    eqb entity (next_parent modes history) || (is_open modes history entity && not (among merge entity))

-- "Each entity has a z-end: a leaf's is itself, a parent's is that of its Z child."
unfoldable pub z_end : ℕ → List Triple → ℕ → ℕ
z_end modes [] entity = entity
z_end modes (merge ∷ history) entity =
    z_end modes history (cond (eqb entity (next_parent modes history)) merge.z entity)

-- The rows after a history: each merge reduces them to its parent by the job's rule.
unfoldable pub rows_after : Job → List Triple → List (List ℕ)
rows_after job [] = job.terms
rows_after job (merge ∷ history) = reduction job.rule merge (next_parent job.modes history) (rows_after job history)
