-- A number that stands ahead as it is written, with no digit behind it, is read as that number.
use mathlib.Core.Path.{◌≡◌, refl, ap, ◌∙◌, sym}
use mathlib.Core.Bool.{true, false}
use mathlib.Core.List.{List, [], ◌∷◌, ◌++◌, append-nil, append_assoc}
use Prim.Native.Nat.{ℕ, zero, suc, ◌+◌, ◌≤◌}
use native.Mathlib.Omega.{arith}
use borrow.Author.Tests.{ne_eqb}
use lib.ListN.{length, drop, length-append}
use Rattle.lists.proofs.Every.{every_fails, every_parts}
use Rattle.fields.specs.Decimal.{is_digit, value, value_after, leads_well, is_number, decimal}
use Rattle.fields.proofs.Numerals.{numeral, is_numeral, value_joined, value_least}
use Rattle.fields.proofs.Digits.{decimal_short}
use Rattle.fields.proofs.DecimalRead.{value_decimal, decimal_is_number}
use Rattle.newick.specs.Reading.{Reading, byte_at, digits_on, number_digits, numbered}
use Rattle.newick.proofs.Ahead.{ahead_first, ahead_byte, ahead_next}

-- The front of a number is a number.
front_leads : (a b : List ℕ) → leads_well (a ++ b) ≡ true → leads_well a ≡ true
unfolding leads_well
front_leads [] b e = refl
front_leads (first ∷ []) b e = refl
front_leads (first ∷ (next ∷ rest)) b e = e

front_value : (a b : List ℕ) → value a ≤ value (a ++ b)
unfolding value
front_value a b = rw (value_joined 0 a b) (value_least (value_after 0 a) b)

front_number : (a b : List ℕ) → 1 ≤ length a → is_number (a ++ b) ≡ true → is_number a ≡ true
front_number a b some e =
    let n = numeral (a ++ b) e in
    is_numeral a
    (record {
      digits = (every_parts is_digit a b n.digits).0;
      some = some;
      short = omega (arith, n.short, length-append a b);
      leads = front_leads a b n.leads;
      fits = omega (arith, n.fits, front_value a b);
    })

-- No number ends in a byte that is no digit.
ends_not : (begun : List ℕ) (byte : ℕ) → is_digit byte ≡ false → is_number (begun ++ (byte ∷ [])) ≡ false
unfolding is_number
ends_not begun byte other = rw (every_fails is_digit begun byte [] other)

module _ (text rest : List ℕ) (stops : is_digit (byte_at rest 0) ≡ false) where
  -- What is left of the digits is read behind those begun.
  digits_left : (left begun : List ℕ) (more at : ℕ) → drop at text ≡ left ++ rest → length left ≤ more
      → (1 ≤ length left → is_number (begun ++ left) ≡ true) → digits_on more text at begun ≡ begun ++ left
  unfolding digits_on
  digits_left [] begun zero at e few good = sym (append-nil begun)
  digits_left [] begun (suc more) at e few good =
      rw (ends_not begun (byte_at text at) (ap is_digit (ahead_first text at rest e) ∙ stops)) (sym (append-nil begun))
  digits_left (digit ∷ left) begun zero at e few good = absurd (omega arith)
  digits_left (digit ∷ left) begun (suc more) at e few good =
      let joined : (begun ++ (digit ∷ [])) ++ left ≡ begun ++ (digit ∷ left) = append_assoc begun (digit ∷ []) left in
      let whole : is_number ((begun ++ (digit ∷ [])) ++ left) ≡ true = ap is_number joined ∙ good (omega arith) in
      let front = front_number (begun ++ (digit ∷ [])) left (omega (arith, length-append begun (digit ∷ []))) whole in
      rw (ahead_byte text at digit (left ++ rest) e, front)
      (digits_left left (begun ++ (digit ∷ [])) more (suc at) (ahead_next text at digit (left ++ rest) e) (omega arith) (λ some. whole) ∙ joined)

  number_ahead : (number at : ℕ) → number ≤ 65535 → drop at text ≡ decimal number ++ rest → number_digits text at ≡ decimal number
  unfolding number_digits
  number_ahead number at fits e =
      digits_left (decimal number) [] 5 at e (decimal_short number fits) (λ some. decimal_is_number number fits)

  pub numbered_ahead : (number at : ℕ) (next : ℕ → ℕ → Reading) → number ≤ 65535 → drop at text ≡ decimal number ++ rest
      → numbered text at next ≡ next number (at + length (decimal number))
  unfolding numbered
  numbered_ahead number at next fits e =
      let some = (numeral (decimal number) (decimal_is_number number fits)).some in
      rw (number_ahead number at fits e, ne_eqb (length (decimal number)) 0 (λ none. absurd (omega arith)), value_decimal number fits)
