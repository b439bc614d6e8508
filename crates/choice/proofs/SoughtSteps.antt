-- The best is sought through one list of choices after the other.
use mathlib.Core.Path.{◌≡◌, refl}
use mathlib.Core.Bool.{Bool, true, false, cond, not}
use mathlib.Core.List.{List, [], ◌∷◌, ◌++◌, map, flat_map, map-map}
use Prim.Native.Nat.{ℕ, ◌+◌, ◌<◌, ◌≤◌}
use native.Mathlib.Omega.{arith}
use borrow.Author.Tests.{le-ltb}
use lib.Dec.{eqb}
use lib.ListN.{length, get_or, drop}
use Rattle.lists.specs.Members.{keep}
use Rattle.lists.specs.Least.{least, lighter}
use Rattle.lists.proofs.Steps.{joined_step, joined_end}
use Rattle.lists.proofs.Least.{best_idle, best_joined, least_map_joined}
use Rattle.entities.specs.declared.Triple.{Triple}
use Rattle.terms.specs.Weight.{weight_of}
use Rattle.slots.specs.code.Numbers.{number_unfixed, number_leaf}
use Rattle.choice.specs.declared.Selection.{Selection}
use Rattle.choice.specs.declared.seeking.Node.{Node}
use Rattle.choice.specs.Choices.{with_z, without, choices_at}
use Rattle.choice.specs.code.Numbered.{numbered}
use Rattle.choice.specs.code.Seeking.{standing, weighed, sought, sought_over, beside, z_leaf}

-- The choices of a node, in lists for one element of another list after the other.
module _ (rows : List (List ℕ)) (node : ℕ) (best : Selection) (choices : ℕ → List Triple) (l : List ℕ) (i : ℕ) where
  pub sought_step : i < length l
      → sought rows node best (flat_map choices (drop i l))
      ≡ sought rows node (sought rows node best (choices (get_or l i 0))) (flat_map choices (drop (i + 1) l))
  unfolding sought
  sought_step h =
      rw (joined_step choices l i 0 h)
      (least_map_joined standing (weighed rows node) best (choices (get_or l i 0)) (flat_map choices (drop (i + 1) l)))

  pub sought_end : length l ≤ i → sought rows node best (flat_map choices (drop i l)) ≡ best
  unfolding sought least
  sought_end h = rw (joined_end choices l i h)

-- An unfixed Z may stand as the leaf that it takes of each free mode but the pair's.
z_leaves : (node : Node) (pair : ℕ) (free : List ℕ)
    → flat_map (z_leaf node pair) free ≡ with_z node.slots.x node.slots.y (map (number_leaf node.among.now.given.modes node.slots.z) (without pair free))
unfolding with_z without keep flat_map
z_leaves node pair [] = refl
z_leaves node pair (mode ∷ free) = rw (z_leaves node pair free) (go (eqb mode pair))
  where
    leaf : ℕ → ℕ
    leaf = number_leaf node.among.now.given.modes node.slots.z

    go : (same : Bool)
        → cond same [] (record { x = node.slots.x; y = node.slots.y; z = leaf mode } ∷ []) ++ with_z node.slots.x node.slots.y (map leaf (without pair free))
        ≡ with_z node.slots.x node.slots.y (map leaf (cond (not same) (mode ∷ []) [] ++ without pair free))
    go true = refl
    go false = refl

pub z_leaves_beside : (node : Node) (pair : ℕ) → number_unfixed node.among.now.given.modes node.slots.z ≡ true
    → flat_map (z_leaf node pair) node.among.now.free.now ≡ beside node pair node.slots
unfolding numbered
z_leaves_beside node pair e = rw e (z_leaves node pair node.among.now.free.now)

-- A couple that is heavier than the best with every z leaves the best as it is.
pub heavy_idle : (rows : List (List ℕ)) (node : ℕ) (best : Selection) (x y : ℕ)
    → ((z : ℕ) → best.min_weight < weight_of (record { x = x; y = y; z = z }) rows) → (zs : List ℕ)
    → sought rows node best (with_z x y zs) ≡ best
unfolding with_z weighed sought least lighter standing
heavy_idle rows node best x y heavy zs =
    rw (map-map (weighed rows node) (λ z. record { x = x; y = y; z = z }) zs)
    (best_idle (lighter standing) (λ z. weighed rows node (record { x = x; y = y; z = z })) best zs
    (λ z m. le-ltb (standing (weighed rows node (record { x = x; y = y; z = z }))) (standing best) (let less = heavy z in omega arith)))

-- One node after the other.
module _ (modes : ℕ) (table assigned : List ℕ) (rows : List (List ℕ)) (best : Selection) (nodes : List ℕ) (i : ℕ) where
  of : ℕ → List Selection
  of node = map (weighed rows node) (choices_at modes table assigned node)

  pub over_step : i < length nodes
      → sought_over modes table assigned rows best (drop i nodes)
      ≡ sought_over modes table assigned rows (sought rows (get_or nodes i 0) best (choices_at modes table assigned (get_or nodes i 0))) (drop (i + 1) nodes)
  unfolding sought_over sought least of
  over_step h = rw (joined_step of nodes i 0 h) (best_joined (lighter standing) best (of (get_or nodes i 0)) (flat_map of (drop (i + 1) nodes)))

  pub over_end : length nodes ≤ i → sought_over modes table assigned rows best (drop i nodes) ≡ best
  unfolding sought_over least of
  over_end h = rw (joined_end of nodes i h)
