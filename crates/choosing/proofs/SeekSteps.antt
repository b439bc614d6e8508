-- Seeking the best of a list, one triple after the other, finds its least, the first of several.
use mathlib.Core.Path.{◌≡◌, refl}
use mathlib.Core.List.{List, [], ◌∷◌, ◌++◌}
use Prim.Native.Nat.{ℕ, ◌<◌}
use Rattle.lists.specs.Least.{least}
use Rattle.lists.proofs.Least.{least_map_joined, least_found}
use Rattle.entities.specs.declared.Triple.{Triple}
use Rattle.choosing.specs.declared.choice.Best.{Best}
use Rattle.choosing.specs.code.Couples.{weighed, seek}

module _ (measure : Triple → ℕ) where
  pub seek_joined : (best : Best) (l m : List Triple) → seek measure best (l ++ m) ≡ seek measure (seek measure best l) m
  unfolding seek
  seek_joined best l m = least_map_joined (λ b. b.weight) (weighed measure) best l m

  pub seek_none : (best : Best) → seek measure best [] ≡ best
  unfolding seek least
  seek_none best = refl

  -- From a start above the first triple's weight the least is found, with its weight.
  pub sought : (start : Best) (first : Triple) (rest : List Triple) → measure first < start.weight
      → seek measure start (first ∷ rest) ≡ weighed measure (least measure first rest)
  unfolding seek weighed
  sought start first rest h = least_found (λ b. b.weight) (weighed measure) start first rest h
