-- A number's decimal text is read back as that number, and an accepted text is the decimal text of its value.
use mathlib.Core.Path.{◌≡◌, refl, ap, ◌∙◌, sym}
use mathlib.Core.Bool.{true, false, not, true≢false}
use mathlib.Core.List.{List, [], ◌∷◌, ◌++◌}
use Prim.Native.Nat.{ℕ, zero, suc, ◌+◌, ◌-◌, ◌*◌, ◌/◌, ◌%◌, ◌^◌, ◌<◌, ◌≤◌}
use native.Mathlib.Nat.{pow-suc}
use native.Mathlib.Omega.{arith}
use borrow.Author.Tests.{ne_eqb}
use lib.Dec.{eqb}
use lib.ListN.{length, get_or, take, get_or-append}
use lib.Seq.{take-suc, take_all, get_or-take, length-take-le}
use Rattle.lists.specs.Members.{every}
use Rattle.lists.proofs.Every.{every_append, every_cons, every_uncons, every_at, every_by_place, every_taken}
use Rattle.fields.specs.Decimal.{is_digit, value_after, value, leads_well, is_number, digits, decimal}
use Rattle.fields.proofs.Numerals.{Numeral, numeral, is_numeral, digit_bounds, digit_within, value_more, value_least, leads_first}
use Rattle.fields.proofs.Digits.{by_size, digits_one, digits_more, some_digits, decimal_short}

-- Every byte of a decimal text is a digit.
all_digits : (more number : ℕ) → every is_digit (digits more number) ≡ true
unfolding digits every
all_digits zero number = refl
all_digits (suc more) number =
    let last : every is_digit ((48 + number % 10) ∷ []) ≡ true =
    every_cons is_digit (48 + number % 10) [] (digit_within (48 + number % 10) (omega arith) (omega arith)) refl in
    by_size number
    (λ h. rw (digits_one more number h) last)
    (λ h.
    rw (digits_more more number h)
    (every_append is_digit (digits more (number / 10)) ((48 + number % 10) ∷ []) (all_digits more (number / 10)) last))

-- A byte that is no digit isn't among them.
pub decimal_without : (mark number : ℕ) → is_digit mark ≡ false → every (λ byte. not (eqb byte mark)) (decimal number) ≡ true
unfolding decimal
decimal_without mark number other =
    every_by_place (λ byte. not (eqb byte mark)) (digits 20 number) 0
    (λ i h.
    let byte = get_or (digits 20 number) i 0 in
    let digit = every_at is_digit (digits 20 number) i 0 h (all_digits 20 number) in
    rw (ne_eqb byte mark (λ e. true≢false (sym digit ∙ ap is_digit e ∙ other))))

value_digits : (more number : ℕ) → number < 10 ^ more → value (digits more number) ≡ number
unfolding digits value value_after
value_digits zero number h = omega arith
value_digits (suc more) number h =
    by_size number
    (λ k. rw (digits_one more number k) (omega arith))
    (λ k.
    let tenth = value_digits more (number / 10) (omega (arith, pow-suc 10 more)) in
    rw (digits_more more number k) (value_more (digits more (number / 10)) (48 + number % 10) ∙ rw tenth (omega arith)))

-- A number above 0 doesn't begin with 0.
first_digit : (more number : ℕ) → 1 ≤ number → number < 10 ^ more → get_or (digits more number) 0 0 ≡ 48 → ⊥
first_digit zero number h k e = omega arith
first_digit (suc zero) number h k e =
    let f : 48 + number % 10 ≡ 48 = rw (digits_one 0 number (omega arith)) at e in
    omega arith
first_digit (suc (suc more)) number h k e =
    by_size number
    (λ l.
    let f : 48 + number % 10 ≡ 48 = rw (digits_one (suc more) number l) at e in
    omega arith)
    (λ l.
    let front = digits (suc more) (number / 10) in
    first_digit (suc more) (number / 10) (omega arith) (omega (arith, pow-suc 10 (suc more)))
    (sym (get_or-append front ((48 + number % 10) ∷ []) 0 0 (some_digits more (number / 10)))
    ∙ ap (λ l. get_or l 0 0) (sym (digits_more (suc more) number l))
    ∙ e))

leads_unless : (l : List ℕ) → (get_or l 0 0 ≡ 48 → ⊥) → leads_well l ≡ true
unfolding leads_well
leads_unless [] h = refl
leads_unless (a ∷ []) h = refl
leads_unless (a ∷ (b ∷ l)) h = rw (ne_eqb a 48 h)

leads_digits : (more number : ℕ) → number < 10 ^ suc more → leads_well (digits (suc more) number) ≡ true
unfolding leads_well
leads_digits more number h =
    by_size number
    (λ l. rw (digits_one more number l))
    (λ l. leads_unless (digits (suc more) number) (first_digit (suc more) number (omega arith) h))

-- Twenty digits hold any number of 64 bits.
pub value_decimal_long : (number : ℕ) → number < 18446744073709551616 → value (decimal number) ≡ number
unfolding decimal
value_decimal_long number h = value_digits 20 number (omega arith)

module _ (number : ℕ) (h : number ≤ 65535) where
  pub value_decimal : value (decimal number) ≡ number
  value_decimal = value_decimal_long number (omega arith)

  decimal_numeral : Numeral (decimal number)
  unfolding decimal
  decimal_numeral =
      record {
        digits = all_digits 20 number;
        some = some_digits 19 number;
        short = decimal_short number h;
        leads = leads_digits 19 number (omega arith);
        fits = rw value_decimal h;
      }

  pub decimal_is_number : is_number (decimal number) ≡ true
  decimal_is_number = is_numeral (decimal number) decimal_numeral

-- The last of some bytes, and those before it.
module _ (l : List ℕ) (some : 1 ≤ length l) where
  pub parted : l ≡ take (length l - 1) l ++ (get_or l (length l - 1) 0 ∷ [])
  parted =
      let e : suc (length l - 1) ≡ length l = omega arith in
      sym (take_all (suc (length l - 1)) l (omega arith)) ∙ take-suc l (length l - 1) 0 (omega arith)

-- Bytes that are led by no 0 say more than 0.
above_zero : (l : List ℕ) → every is_digit l ≡ true → 1 ≤ length l → (get_or l 0 0 ≡ 48 → ⊥) → 1 ≤ value l
unfolding value value_after
above_zero [] e h no_zero = absurd (omega arith)
above_zero (a ∷ l) e h no_zero =
    let low = (digit_bounds a (every_uncons is_digit a l e).0).0 in
    let more = value_least (10 * 0 + (a - 48)) l in
    go (a - 48) refl low more
  where
    go : (d : ℕ) → a - 48 ≡ d → 48 ≤ a → 10 * 0 + (a - 48) ≤ value_after (10 * 0 + (a - 48)) l → 1 ≤ value_after (10 * 0 + (a - 48)) l
    go zero f low more = absurd (no_zero (omega arith))
    go (suc d) f low more = omega arith

-- The digits of what digits say, with one more behind them.
digits_behind : (more : ℕ) (l : List ℕ) (byte : ℕ) → 48 ≤ byte → byte ≤ 57
    → (1 ≤ length l → (1 ≤ value l) × (digits more (value l) ≡ l)) → digits (suc more) (value (l ++ (byte ∷ []))) ≡ l ++ (byte ∷ [])
unfolding value value_after
digits_behind more [] byte h k on =
    let last : 48 + (10 * 0 + (byte - 48)) % 10 ≡ byte = omega arith in
    digits_one more (10 * 0 + (byte - 48)) (omega arith) ∙ rw last
digits_behind more (a ∷ l) byte h k on =
    let p = on (omega arith) in
    let number = 10 * value (a ∷ l) + (byte - 48) in
    let tenth : number / 10 ≡ value (a ∷ l) = omega arith in
    let last : 48 + number % 10 ≡ byte = omega arith in
    rw (value_more (a ∷ l) byte, digits_more more number (omega (arith, p.0)), tenth, last, p.1)

no_zero_first : (l : List ℕ) → 2 ≤ length l → leads_well l ≡ true → get_or l 0 0 ≡ 48 → ⊥
no_zero_first [] h e = absurd (omega arith)
no_zero_first (a ∷ []) h e = absurd (omega arith)
no_zero_first (a ∷ (b ∷ l)) h e = leads_first a b l e

digits_value : (more : ℕ) (l : List ℕ) → every is_digit l ≡ true → 1 ≤ length l → length l ≤ more → leads_well l ≡ true
    → digits more (value l) ≡ l
digits_value zero l e some h leads = absurd (omega arith)
digits_value (suc more) l e some h leads =
    let k = length l - 1 in
    let front = take k l in
    let size : length front ≡ k = length-take-le k l (omega arith) in
    let last = digit_bounds (get_or l k 0) (every_at is_digit l k 0 (omega arith) e) in
    let good = every_taken is_digit k l e in
    let no_zero : 1 ≤ k → get_or front 0 0 ≡ 48 → ⊥ =
    λ i f. no_zero_first l (omega arith) leads (sym (get_or-take k l 0 0 (omega arith)) ∙ f) in
    ap (λ m. digits (suc more) (value m)) (parted l some)
    ∙ digits_behind more front (get_or l k 0) last.0 last.1
    (λ i. (
      above_zero front good i (no_zero (omega arith)),
      digits_value more front good i (omega arith) (leads_unless front (no_zero (omega arith))),
    ))
    ∙ sym (parted l some)

-- An accepted number stands in the text exactly as it would be written.
pub decimal_value : (bytes : List ℕ) → is_number bytes ≡ true → decimal (value bytes) ≡ bytes
unfolding decimal
decimal_value bytes e =
    let n = numeral bytes e in
    digits_value 20 bytes n.digits n.some (omega (arith, n.short)) n.leads
