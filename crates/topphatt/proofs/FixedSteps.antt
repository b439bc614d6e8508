-- One leaf fixed or left.
use mathlib.Core.Path.{◌≡◌}
use mathlib.Core.Bool.{true, false}
use mathlib.Core.List.{List}
use Prim.Native.Nat.{ℕ, ◌/◌}
use lib.ListN.{set}
use Rattle.tree.specs.Table.{child}
use Rattle.slots.specs.Slots.{slot, unfixed, pair_of}
use Rattle.topphatt.specs.Rounds.{fixed}

module _ (modes : ℕ) (table : List ℕ) (node edge number : ℕ) (assigned : List ℕ) where
  pub fixed_not : unfixed (slot modes table assigned node edge) ≡ false → fixed modes table node edge number assigned ≡ assigned
  unfolding fixed
  fixed_not e = rw e

  pub fixed_set : unfixed (slot modes table assigned node edge) ≡ true
      → fixed modes table node edge number assigned ≡ set assigned (pair_of modes (child table node edge)) (number / 2)
  unfolding fixed
  fixed_set e = rw e
