-- Two texts alike up to a place: digits that end there at the latest are the same in both.
use mathlib.Core.Path.{◌≡◌, refl}
use mathlib.Core.Bool.{Bool, true, false, cond}
use mathlib.Core.List.{List, [], ◌∷◌, ◌++◌}
use mathlib.Core.Logic.{◌⊎◌, inl, ⊎_elim}
use Prim.Native.Nat.{ℕ, zero, suc, ◌+◌, ◌<◌, ◌≤◌}
use native.Mathlib.Omega.{arith}
use lib.ListN.{length, length-append}
use Rattle.lists.proofs.Tests.{same_or_not, not_so}
use Rattle.fields.specs.Decimal.{is_number}
use Rattle.newick.specs.Reading.{byte_at, digits_on, number_digits}
use Rattle.newick.proofs.DigitsStand.{last_digit, digits_stand}

-- Before the place the bytes are the same; at it too, or the other text has ended.
pub record Alike (text other : List ℕ) (place : ℕ) : Type 0 where
  pub before : (at : ℕ) → at < place → byte_at other at ≡ byte_at text at
  pub there : (byte_at other place ≡ byte_at text place) ⊎ (byte_at other place ≡ 0)

module _ (text other : List ℕ) (place : ℕ) (alike : Alike text other place) where
  alike_at : (at : ℕ) → at ≤ place → (byte_at other at ≡ byte_at text at) ⊎ (byte_at other at ≡ 0)
  alike_at at h = ⊎_elim (λ e. rw e alike.there) (λ e. inl (alike.before at (omega arith))) (same_or_not at place)

  -- Another byte than the one that stands, and than 0, doesn't stand in the other text either.
  pub alike_not : (at byte : ℕ) → at ≤ place → 0 < byte → (byte_at text at ≡ byte → ⊥) → byte_at other at ≡ byte → ⊥
  alike_not at byte h some never e =
      ⊎_elim (λ f. never (rw f at e)) (λ f. absurd (omega arith)) (alike_at at h)

  digits_same : (more at : ℕ) (begun : List ℕ) → at + length (digits_on more text at begun) ≤ place + length begun
      → digits_on more other at begun ≡ digits_on more text at begun
  unfolding digits_on
  digits_same zero at begun h = refl
  digits_same (suc more) at begun h =
      go (is_number (begun ++ (byte_at text at ∷ []))) refl (digits_same more (suc at) (begun ++ (byte_at text at ∷ []))) h
    where
      go : (b : Bool) → is_number (begun ++ (byte_at text at ∷ [])) ≡ b
          → (suc at + length (digits_on more text (suc at) (begun ++ (byte_at text at ∷ []))) ≤ place + length (begun ++ (byte_at text at ∷ []))
          → digits_on more other (suc at) (begun ++ (byte_at text at ∷ [])) ≡ digits_on more text (suc at) (begun ++ (byte_at text at ∷ [])))
          → at + length (cond b (digits_on more text (suc at) (begun ++ (byte_at text at ∷ []))) begun) ≤ place + length begun
          → cond (is_number (begun ++ (byte_at other at ∷ []))) (digits_on more other (suc at) (begun ++ (byte_at other at ∷ []))) begun
          ≡ cond b (digits_on more text (suc at) (begun ++ (byte_at text at ∷ []))) begun
      go true q on k =
          let longer = begun ++ (byte_at text at ∷ []) in
          let r = digits_stand more text (suc at) longer in
          let size = length-append begun (byte_at text at ∷ []) in
          let all : length (digits_on more text (suc at) longer) ≡ length longer + length r.more = rw r.joined (length-append longer r.more) in
          let low : at < place = omega arith in
          rw (alike.before at low, q) (on (omega arith))
      go false q on k =
          let low : at ≤ place = omega arith in
          ⊎_elim (λ e. rw e (rw q refl))
          (λ e.
          let ended : is_number (begun ++ (0 ∷ [])) ≡ false = not_so (is_number (begun ++ (0 ∷ []))) (λ f. absurd (omega (arith, last_digit begun 0 f))) in
          rw e (rw ended refl))
          (alike_at at low)

  pub number_same : (at : ℕ) → at + length (number_digits text at) ≤ place → number_digits other at ≡ number_digits text at
  unfolding number_digits
  number_same at h = digits_same 5 at [] (omega arith)
