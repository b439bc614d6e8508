-- The letter of three counts: all eight cases, and where there is none.
use mathlib.Core.Path.{◌≡◌, refl, ap, ◌∙◌}
use mathlib.Core.Bool.{cond, ◌&&◌, ◌||◌}
use Prim.Native.Nat.{ℕ, zero, suc, ◌+◌, ◌%◌, ◌≤◌, ◌<◌}
use native.Mathlib.Omega.{arith}
use lib.Dec.{eqb}
use Rattle.terms.specs.declared.letters.Letter.{Letter}
use Rattle.terms.specs.declared.letters.Letter.TheVariants.{Nothing, X, Y, Z}
use Rattle.terms.specs.Letters.{letter_of, counted_letter, not_none, EightCases}

-- From the three remainders.
pub by_remainders : (xs ys zs a b c : ℕ) → xs % 2 ≡ a → ys % 2 ≡ b → zs % 2 ≡ c → counted_letter xs ys zs ≡ letter_of (eqb a 1) (eqb b 1) (eqb c 1)
unfolding counted_letter
by_remainders xs ys zs a b c ea eb ec = rw (ea, eb, ec)

pub eight_cases : EightCases
unfolding letter_of
eight_cases xs ys zs = record {
  x_alone = by_remainders xs ys zs 1 0 0;
  y_alone = by_remainders xs ys zs 0 1 0;
  z_alone = by_remainders xs ys zs 0 0 1;
  y_and_z = by_remainders xs ys zs 0 1 1;
  x_and_z = by_remainders xs ys zs 1 0 1;
  x_and_y = by_remainders xs ys zs 1 1 0;
  no_one = by_remainders xs ys zs 0 0 0;
  all_three = by_remainders xs ys zs 1 1 1;
}

-- A fact of any remainder by 2 that holds of 0 and of 1.
of_two : (P : ℕ → Type 0) → P 0 → P 1 → (number : ℕ) → number < 2 → P number
of_two P even odd zero h = even
of_two P even odd (suc zero) h = odd
of_two P even odd (suc (suc number)) h = absurd (omega arith)

-- Where all three are alike there is none.
pub none_alike : (xs ys zs : ℕ) → xs % 2 ≡ zs % 2 → ys % 2 ≡ zs % 2 → counted_letter xs ys zs ≡ Nothing
unfolding letter_of
none_alike xs ys zs ex ey =
    by_remainders xs ys zs (zs % 2) (zs % 2) (zs % 2) ex ey refl
    ∙ of_two (λ a. letter_of (eqb a 1) (eqb a 1) (eqb a 1) ≡ Nothing) refl refl (zs % 2) (omega arith)

-- A fact of three remainders that holds in all eight cases.
module _ (P : ℕ → ℕ → ℕ → Type 0) (p000 : P 0 0 0) (p001 : P 0 0 1) (p010 : P 0 1 0) (p011 : P 0 1 1) (p100 : P 1 0 0) (p101 : P 1 0 1) (p110 : P 1 1 0) (p111 : P 1 1 1) where
  of_eight : (a b c : ℕ) → a < 2 → b < 2 → c < 2 → P a b c
  of_eight a b c ha hb hc =
      of_two (λ a. P a b c)
      (of_two (λ b. P 0 b c) (of_two (λ c. P 0 0 c) p000 p001 c hc) (of_two (λ c. P 0 1 c) p010 p011 c hc) b hb)
      (of_two (λ b. P 1 b c) (of_two (λ c. P 1 0 c) p100 p101 c hc) (of_two (λ c. P 1 1 c) p110 p111 c hc) b hb)
      a ha

-- A letter stands where one or two are odd.
pub not_none_counts : (xs ys zs : ℕ)
    → not_none (counted_letter xs ys zs)
    ≡ cond (eqb (xs % 2 + ys % 2 + zs % 2) 1 || eqb (xs % 2 + ys % 2 + zs % 2) 2) 1 0
unfolding letter_of
not_none_counts xs ys zs =
    ap not_none (by_remainders xs ys zs (xs % 2) (ys % 2) (zs % 2) refl refl refl)
    ∙ of_eight (λ a b c. not_none (letter_of (eqb a 1) (eqb b 1) (eqb c 1)) ≡ cond (eqb (a + b + c) 1 || eqb (a + b + c) 2) 1 0)
    refl refl refl refl refl refl refl refl (xs % 2) (ys % 2) (zs % 2) (omega arith) (omega arith) (omega arith)

-- A letter stands where the three are not all alike.
pub not_none_apart : (xs ys zs : ℕ)
    → not_none (counted_letter xs ys zs) ≡ cond (eqb (xs % 2) (ys % 2) && eqb (ys % 2) (zs % 2)) 0 1
unfolding letter_of
not_none_apart xs ys zs =
    ap not_none (by_remainders xs ys zs (xs % 2) (ys % 2) (zs % 2) refl refl refl)
    ∙ of_eight (λ a b c. not_none (letter_of (eqb a 1) (eqb b 1) (eqb c 1)) ≡ cond (eqb a b && eqb b c) 0 1)
    refl refl refl refl refl refl refl refl (xs % 2) (ys % 2) (zs % 2) (omega arith) (omega arith) (omega arith)

-- A letter weighs at most 1.
pub not_none_at_most : (letter : Letter) → not_none letter ≤ 1
not_none_at_most Nothing = omega arith
not_none_at_most X = omega arith
not_none_at_most Y = omega arith
not_none_at_most Z = omega arith
