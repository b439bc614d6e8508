-- What is known of the elements that lead before the first of which a test doesn't hold.
use mathlib.Core.Path.{◌≡◌, refl, ap}
use mathlib.Core.Bool.{Bool, true, false}
use mathlib.Core.List.{List, [], ◌∷◌}
use Prim.Native.Nat.{ℕ, zero, suc, ◌<◌}
use native.Mathlib.Omega.{arith}
use lib.ListN.{length, get_or}
use Rattle.lists.specs.Members.{leading}

module _ {A : Type 0} (test : A → Bool) where
  -- The test holds of those that lead, and not of the one after them.
  pub leads : (l : List A) (i : ℕ) (d : A) → i < leading test l → test (get_or l i d) ≡ true
  unfolding leading
  leads [] i d h = absurd (omega arith)
  leads (a ∷ l) i d h = go (test a) refl i h (leads l)
    where
      go : (b : Bool) → test a ≡ b → (j : ℕ) → j < leading test (a ∷ l) → ((k : ℕ) (d' : A) → k < leading test l → test (get_or l k d') ≡ true)
          → test (get_or (a ∷ l) j d) ≡ true
      go true e zero k on = e
      go true e (suc j) k on = on j d (omega (arith, rw e at k))
      go false e j k on = absurd (omega (arith, rw e at k))

  pub leads_not : (l : List A) (d : A) → leading test l < length l → test (get_or l (leading test l) d) ≡ false
  unfolding leading
  leads_not [] d h = absurd (omega arith)
  leads_not (a ∷ l) d h = go (test a) refl h (leads_not l d)
    where
      go : (b : Bool) → test a ≡ b → leading test (a ∷ l) < suc (length l)
          → (leading test l < length l → test (get_or l (leading test l) d) ≡ false) → test (get_or (a ∷ l) (leading test (a ∷ l)) d) ≡ false
      go true e k on = rw e (on (omega (arith, rw e at k)))
      go false e k on = rw e e

  -- Where the test holds at every place, all lead.
  pub leading_all : (l : List A) (d : A) → ((i : ℕ) → i < length l → test (get_or l i d) ≡ true) → leading test l ≡ length l
  unfolding leading
  leading_all [] d each = refl
  leading_all (a ∷ l) d each = rw (each 0 (omega arith)) (ap suc (leading_all l d (λ i h. each (suc i) (omega arith))))
