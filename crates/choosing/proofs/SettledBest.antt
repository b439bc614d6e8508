-- Seeking on where nothing is lighter leaves the best as it is; what was found is lighter than nothing that was passed.
use mathlib.Core.Path.{◌≡◌}
use mathlib.Core.List.Memᴰ
use mathlib.Core.List.{List}
use mathlib.Core.Logic.{⊎_elim}
use Prim.Native.Nat.{ℕ, zero, suc, ◌≤◌}
use native.Mathlib.Omega.{arith}
use borrow.Author.Tests.{le-ltb}
use Rattle.lists.specs.Least.{least, lighter}
use Rattle.lists.specs.Ranges.{listed}
use Rattle.lists.proofs.Least.{best_idle, least_below, least_settles}
use Rattle.lists.proofs.Membership.{of_kept}
use Rattle.entities.specs.declared.Triple.{Triple}
use Rattle.choosing.specs.declared.choice.Best.{Best}
use Rattle.choosing.specs.code.Couples.{weighed, seek, free, beside, Settled}

module _ (measure : Triple → ℕ) where
  pub seek_idle : (best : Best) (l : List Triple) → Settled measure best l → seek measure best l ≡ best
  unfolding seek least lighter weighed
  seek_idle best l settled =
      best_idle (lighter (λ b. b.weight)) (weighed measure) best l (λ t m. le-ltb (measure t) best.weight (settled t m))

  -- A best that is no heavier settles what the other settled; one of weight 0 settles anything.
  pub settled_on : (best lower : Best) (l : List Triple) → lower.weight ≤ best.weight → Settled measure best l → Settled measure lower l
  settled_on best lower l h settled triple m = omega (arith, settled triple m)

  pub nought_settles : (best : Best) (l : List Triple) → best.weight ≡ 0 → Settled measure best l
  nought_settles best l e triple m = omega arith

  -- What was found is no heavier than the best before it, nor than what it was sought among.
  pub sought_below : (best : Best) (l : List Triple) → (seek measure best l).weight ≤ best.weight
  unfolding seek
  sought_below best l = least_below (λ b. b.weight) (weighed measure) best l

  pub sought_settles : (best : Best) (l : List Triple) → Settled measure (seek measure best l) l
  unfolding seek weighed
  sought_settles best l = least_settles (λ b. b.weight) (weighed measure) best l

  -- A couple that is too heavy with every z.
  settled_listed : (best : Best) (rule : ℕ → Triple) → ((z : ℕ) → best.weight ≤ measure (rule z)) → (from count : ℕ)
      → Settled measure best (listed rule from count)
  unfolding listed
  settled_listed best rule heavy from zero t m = absurd (Memᴰ.not-nil m)
  settled_listed best rule heavy from (suc count) t m =
      ⊎_elim (λ e. rw e (heavy from)) (settled_listed best rule heavy (suc from) count t) (Memᴰ.cases_cons m)

  pub heavy_settles : (modes : ℕ) (history : List Triple) (x y from count : ℕ) (best : Best)
      → ((z : ℕ) → best.weight ≤ measure (record { x = x; y = y; z = z })) → Settled measure best (beside modes history x y from count)
  unfolding beside
  heavy_settles modes history x y from count best heavy t m =
      settled_listed best (λ z. record { x = x; y = y; z = z }) heavy from count t
      (of_kept (free modes history) (listed (λ z. record { x = x; y = y; z = z }) from count) m).0
