-- The digits of a number that was read stand in the text, and are spelled as their value is.
use mathlib.Core.Path.{◌≡◌, refl, ap, ◌∙◌, sym}
use mathlib.Core.Bool.{Bool, true, false, cond}
use mathlib.Core.List.{List, [], ◌∷◌, ◌++◌, append-nil, append_assoc}
use mathlib.Core.Logic.{◌⊎◌, inl, inr, ⊎_elim}
use Prim.Native.Nat.{ℕ, zero, suc, ◌+◌, ◌<◌, ◌≤◌}
use native.Mathlib.Nat.{add-zero}
use native.Mathlib.Omega.{arith}
use borrow.Author.Tests.{ltb-true, ltb-false}
use lib.Dec.{ltb}
use lib.ListN.{length, drop, length-append, get_or-eq_default}
use lib.Seq.{drop-cons, get_or-append_seam}
use Rattle.lists.proofs.Every.{every_at}
use Rattle.fields.specs.Decimal.{is_digit, is_number, value, decimal}
use Rattle.fields.proofs.Numerals.{numeral, digit_bounds}
use Rattle.fields.proofs.DecimalRead.{decimal_value}
use Rattle.newick.specs.Reading.{byte_at, digits_on, number_digits}

-- A byte other than 0 is one of the text's.
pub byte_stands : (text : List ℕ) (at byte : ℕ) → byte_at text at ≡ byte → 0 < byte
    → (at < length text) × (drop at text ≡ byte ∷ drop (suc at) text)
unfolding byte_at
byte_stands text at byte e some = go (ltb at (length text)) refl
  where
    go : (b : Bool) → ltb at (length text) ≡ b → (at < length text) × (drop at text ≡ byte ∷ drop (suc at) text)
    go true q =
        let h = ltb-true at (length text) q in
        (h, drop-cons text at 0 h ∙ ap (λ first. first ∷ drop (suc at) text) e)
    go false q = absurd (omega (arith, e, get_or-eq_default text 0 (ltb-false at (length text) q)))

-- The last byte of a number is a digit.
pub last_digit : (begun : List ℕ) (byte : ℕ) → is_number (begun ++ (byte ∷ [])) ≡ true → 48 ≤ byte
last_digit begun byte e =
    let all = begun ++ (byte ∷ []) in
    let here = every_at is_digit all (length begun) 0 (omega (arith, length-append begun (byte ∷ []))) (numeral all e).digits in
    (digit_bounds byte (rw (get_or-append_seam begun byte [] 0) at here)).0

-- Digits read behind some that were begun.
pub record DigitsStand (text : List ℕ) (at : ℕ) (begun all : List ℕ) : Type 0 where
  pub more : List ℕ
  pub joined : all ≡ begun ++ more
  pub ahead : drop at text ≡ more ++ drop (at + length more) text
  pub within : at ≤ length text → at + length more ≤ length text
  pub good : (all ≡ begun) ⊎ (is_number all ≡ true)

module _ (text : List ℕ) (at : ℕ) (begun : List ℕ) where
  none_more : DigitsStand text at begun begun
  none_more =
      record {
        more = [];
        joined = sym (append-nil begun);
        ahead = rw (add-zero at);
        within = λ h. omega arith;
        good = inl refl;
      }

  one_more : (all : List ℕ) → is_number (begun ++ (byte_at text at ∷ [])) ≡ true
      → DigitsStand text (suc at) (begun ++ (byte_at text at ∷ [])) all → DigitsStand text at begun all
  one_more all e rest =
      let byte = byte_at text at in
      let stands = byte_stands text at byte refl (omega (arith, last_digit begun byte e)) in
      let place : suc at + length rest.more ≡ at + suc (length rest.more) = omega arith in
      record {
        more = byte ∷ rest.more;
        joined = rest.joined ∙ append_assoc begun (byte ∷ []) rest.more;
        ahead = stands.1 ∙ ap (λ l. byte ∷ l) (rw place at rest.ahead);
        within = λ h. omega (arith, rest.within stands.0);
        good = inr (⊎_elim (λ same. rw same e) (λ good. good) rest.good);
      }

pub digits_stand : (more : ℕ) (text : List ℕ) (at : ℕ) (begun : List ℕ) → DigitsStand text at begun (digits_on more text at begun)
unfolding digits_on
digits_stand zero text at begun = none_more text at begun
digits_stand (suc more) text at begun =
    go (is_number (begun ++ (byte_at text at ∷ []))) refl (digits_stand more text (suc at) (begun ++ (byte_at text at ∷ [])))
  where
    go : (b : Bool) → is_number (begun ++ (byte_at text at ∷ [])) ≡ b
        → DigitsStand text (suc at) (begun ++ (byte_at text at ∷ [])) (digits_on more text (suc at) (begun ++ (byte_at text at ∷ [])))
        → DigitsStand text at begun (cond b (digits_on more text (suc at) (begun ++ (byte_at text at ∷ []))) begun)
    go true q rest = one_more text at begun (digits_on more text (suc at) (begun ++ (byte_at text at ∷ []))) q rest
    go false q rest = none_more text at begun

-- A number stands from one place to another.
pub record NumberStands (text : List ℕ) (at number end : ℕ) : Type 0 where
  pub small : number ≤ 65535
  pub ahead : drop at text ≡ decimal number ++ drop end text
  pub onward : at < end
  pub within : at ≤ length text → end ≤ length text

pub number_stands : (text : List ℕ) (at : ℕ) → (length (number_digits text at) ≡ 0 → ⊥)
    → NumberStands text at (value (number_digits text at)) (at + length (number_digits text at))
unfolding number_digits
number_stands text at some =
    let r = digits_stand 5 text at [] in
    let all = digits_on 5 text at [] in
    let good : is_number all ≡ true = ⊎_elim (λ e. absurd (some (ap length e))) (λ e. e) r.good in
    record {
      small = (numeral all good).fits;
      ahead = rw (decimal_value all good, r.joined) r.ahead;
      onward = omega (arith, (numeral all good).some);
      within = λ h. rw r.joined (r.within h);
    }
