-- "Least weight, then largest z, y, x, then lowest node."
use Rattle.std.specs.Prelude.{◌≡◌, ◌⊎◌, ℕ, ◌≤◌, ◌<◌}
use mathlib.Core.List.{List, map, flat_map, Memᴰ}
use Rattle.entities.specs.declared.Triple.{Triple}
use Rattle.terms.specs.Weight.{weight_of}
use Rattle.slots.specs.Nodes.{active}
use Rattle.choice.specs.Choices.{choices_at}

-- A node with the numbers that its three slots are to stand as.
pub record Choice : Type 0 where
  pub node : ℕ
  pub triple : Triple

-- The choices of a round: the nodes ascending, each with its own.
unfoldable pub candidates : ℕ → List ℕ → ℕ → List ℕ → List Choice
candidates modes table heuristic assigned =
    flat_map (λ node. map (λ triple. record { node = node; triple = triple }) (choices_at modes table assigned node))
    (active modes table heuristic assigned)

-- "then largest z, y, x".
abbrev pub Larger : Triple → Triple → Type 0
Larger t u =
    (u.z < t.z) ⊎ ((u.z ≡ t.z) × ((u.y < t.y) ⊎ ((u.y ≡ t.y) × (u.x < t.x))))

-- The choice of a round, as a reader states it.
pub record Chosen (modes : ℕ) (table : List ℕ) (heuristic : ℕ) (assigned : List ℕ) (rows : List (List ℕ)) (choice : Choice) : Type 0 where
  pub candidate : Memᴰ choice (candidates modes table heuristic assigned)
  pub least : (other : Choice) → Memᴰ other (candidates modes table heuristic assigned)
      → weight_of choice.triple rows ≤ weight_of other.triple rows
  pub largest : (other : Choice) → Memᴰ other (candidates modes table heuristic assigned)
      → weight_of other.triple rows ≡ weight_of choice.triple rows
      → Larger choice.triple other.triple ⊎ ((other.triple ≡ choice.triple) × (choice.node ≤ other.node))
