-- One step up from a node, and where the steps end; and one step along nodes whose largest distance is sought.
use mathlib.Core.Path.{◌≡◌, refl}
use mathlib.Core.List.{List, map}
use Prim.Native.Nat.{ℕ, zero, suc, ◌+◌, ◌-◌, ◌/◌, ◌<◌, ◌≤◌, max}
use native.Mathlib.Omega.{arith}
use borrow.Author.Tests.{lt-ltb, le-ltb}
use lib.ListN.{length, get_or, drop, drop_of_length-le}
use Rattle.lists.proofs.Steps.{drop_step}
use Rattle.tree.specs.Table.{place_of_code}
use Rattle.slots.specs.Nodes.{distance, largest}

pub distance_none : (table : List ℕ) (left node : ℕ) → length table ≤ place_of_code table node → distance table left node ≡ 0
unfolding distance
distance_none table zero node h = refl
distance_none table (suc left) node h = rw (le-ltb (place_of_code table node) (length table) h)

pub distance_up : (table : List ℕ) (left node : ℕ) → place_of_code table node < length table
    → distance table (suc left) node ≡ suc (distance table left (place_of_code table node / 3))
unfolding distance
distance_up table left node h = rw (lt-ltb (place_of_code table node) (length table) h)

pub distance_above : (table : List ℕ) (steps up node place : ℕ) → up < steps → place ≡ place_of_code table node → place < length table
    → distance table (steps - up) node ≡ distance table (steps - (up + 1)) (place / 3) + 1
distance_above table steps up node place h e k =
    let more : steps - up ≡ suc (steps - (up + 1)) = omega arith in
    rw (more, e) (omega (arith, distance_up table (steps - (up + 1)) node (rw e at k)))

pub distance_end : (table : List ℕ) (steps up node : ℕ) → steps ≤ up → distance table (steps - up) node ≡ 0
unfolding distance
distance_end table steps up node h = let none : steps - up ≡ 0 = omega arith in rw none

-- Along the nodes: the largest of those passed and of those ahead is the largest of all.
module _ (f : ℕ → ℕ) (s : List ℕ) (i : ℕ) where
  pub largest_step : i < length s → largest (map f (drop i s)) ≡ max (f (get_or s i 0)) (largest (map f (drop (i + 1) s)))
  unfolding largest
  largest_step h = rw (drop_step s i 0 h)

  pub largest_end : length s ≤ i → largest (map f (drop i s)) ≡ 0
  unfolding largest
  largest_end h = rw (drop_of_length-le s h)
