-- The digits of a number: how many there are, how they are counted, and how they are written from the last one back.
use mathlib.Core.Path.{◌≡◌, refl, ap, ◌∙◌, sym}
use mathlib.Core.Bool.{Bool, true, false}
use mathlib.Core.List.{List, [], ◌∷◌, ◌++◌, append_assoc}
use Prim.Native.Nat.{ℕ, zero, suc, ◌+◌, ◌-◌, ◌/◌, ◌%◌, ◌^◌, ◌<◌, ◌≤◌}
use native.Mathlib.Nat.{zero-add, pow-suc}
use native.Mathlib.Numerals.{add-one}
use native.Mathlib.Omega.{arith}
use borrow.Author.Tests.{lt-ltb, le-ltb, ltb-true, ltb-false}
use lib.Dec.{ltb}
use lib.ListN.{length, set, take, drop, length-append}
use lib.Seq.{set_split, drop_at, length-take-le}
use Rattle.lists.specs.Written.{written_at}
use Rattle.fields.specs.Decimal.{digits, decimal}

-- The number has one digit or more.
pub by_size : {P : Type 0} (number : ℕ) → (number < 10 → P) → (10 ≤ number → P) → P
by_size {P} number small large = go (ltb number 10) refl
  where
    go : (b : Bool) → ltb number 10 ≡ b → P
    go true e = small (ltb-true number 10 e)
    go false e = large (ltb-false number 10 e)

pub digits_one : (more number : ℕ) → number < 10 → digits (suc more) number ≡ (48 + number % 10) ∷ []
unfolding digits
digits_one more number h = rw (lt-ltb number 10 h)

pub digits_more : (more number : ℕ) → 10 ≤ number → digits (suc more) number ≡ digits more (number / 10) ++ ((48 + number % 10) ∷ [])
unfolding digits
digits_more more number h = rw (le-ltb number 10 h)

length_digits_one : (more number : ℕ) → number < 10 → length (digits (suc more) number) ≡ 1
length_digits_one more number h = ap length (digits_one more number h)

length_digits_more : (more number : ℕ) → 10 ≤ number → length (digits (suc more) number) ≡ length (digits more (number / 10)) + 1
length_digits_more more number h =
    ap length (digits_more more number h) ∙ length-append (digits more (number / 10)) ((48 + number % 10) ∷ [])

length_digits : (more number : ℕ) → length (digits more number) ≤ more
unfolding digits
length_digits zero number = omega arith
length_digits (suc more) number =
    by_size number
    (λ h. omega (arith, length_digits_one more number h))
    (λ h. omega (arith, length_digits_more more number h, length_digits more (number / 10)))

pub some_digits : (more number : ℕ) → 1 ≤ length (digits (suc more) number)
some_digits more number =
    by_size number
    (λ h. omega (arith, length_digits_one more number h))
    (λ h. omega (arith, length_digits_more more number h))

digits_below : (more k number : ℕ) → number < 10 ^ suc k → length (digits more number) ≤ suc k
unfolding digits
digits_below zero k number h = omega arith
digits_below (suc more) zero number h = omega (arith, length_digits_one more number (omega arith))
digits_below (suc more) (suc k) number h =
    by_size number
    (λ l. omega (arith, length_digits_one more number l))
    (λ l. omega (arith, length_digits_more more number l, digits_below more k (number / 10) (omega (arith, pow-suc 10 (suc k)))))

-- A number below a power of ten has no more digits than the power has zeros.
pub few_digits : (k number : ℕ) → number < 10 ^ suc k → length (decimal number) ≤ suc k
unfolding decimal
few_digits k number h = digits_below 20 k number h

pub decimal_short : (number : ℕ) → number ≤ 65535 → length (decimal number) ≤ 5
decimal_short number h = few_digits 4 number (omega arith)

pub decimal_long : (number : ℕ) → length (decimal number) ≤ 20
unfolding decimal
decimal_long number = length_digits 20 number

-- So many digits are passed, and those of what is left are still to be counted.
pub record Counting (number count left : ℕ) : Type 0 where
  pub some : 1 ≤ count
  pub few : count ≤ 20
  pub rest : length (decimal number) + 1 ≡ count + length (digits (21 - count) left)

pub counting_starts : (number : ℕ) → Counting number 1 number
unfolding decimal
counting_starts number = record { some = omega arith; few = omega arith; rest = omega arith }

module _ (number count left : ℕ) (c : Counting number count left) where
  pub counting_ends : left < 10 → count ≡ length (decimal number)
  counting_ends h =
      let e : 21 - count ≡ suc (20 - count) = omega (arith, c.few) in
      omega (arith, c.rest, ap (λ n. length (digits n left)) e, length_digits_one (20 - count) left h)

  pub counting_goes : 10 ≤ left → count < 20 → Counting number (count + 1) (left / 10)
  counting_goes h k =
      let e : 21 - count ≡ suc (20 - count) = omega (arith, c.few) in
      let f : 21 - (count + 1) ≡ 20 - count = omega arith in
      record {
        some = omega arith;
        few = omega arith;
        rest = rw f (omega (arith, c.rest, ap (λ n. length (digits n left)) e, length_digits_more (20 - count) left h));
      }

  pub counting_full : 20 ≤ count → count ≡ length (decimal number)
  counting_full h =
      let e : 21 - count ≡ 1 = omega (arith, c.few) in
      omega (arith, c.rest, ap (λ n. length (digits n left)) e, some_digits 0 left, length_digits 1 left)

-- As many digits as the number has are enough for it.
digits_enough : (most number : ℕ) → digits (length (digits most number)) number ≡ digits most number
unfolding digits
digits_enough zero number = refl
digits_enough (suc most) number =
    by_size number
    (λ h. ap (λ n. digits n number) (length_digits_one most number h) ∙ digits_one 0 number h ∙ sym (digits_one most number h))
    (λ h.
    ap (λ n. digits n number) (length_digits_more most number h ∙ add-one (length (digits most (number / 10))))
    ∙ digits_more (length (digits most (number / 10))) number h
    ∙ ap (λ l. l ++ ((48 + number % 10) ∷ [])) (digits_enough most (number / 10))
    ∙ sym (digits_more most number h))

pub no_digits : (number : ℕ) → digits 0 number ≡ []
unfolding digits
no_digits number = refl

-- Where there are as many digits as were asked for, those before the last are the digits of the tenth.
digits_last : (more number : ℕ) → length (digits (suc more) number) ≡ suc more
    → (length (digits more (number / 10)) ≡ more)
    × (digits (suc more) number ≡ digits more (number / 10) ++ ((48 + number % 10) ∷ []))
digits_last more number e =
    by_size number
    (λ h.
    let none : more ≡ 0 = omega (arith, length_digits_one more number h) in
    rw none (rw (no_digits (number / 10)) (refl, digits_one 0 number h)))
    (λ h. (omega (arith, length_digits_more more number h), digits_more more number h))

-- Before the first digit is written all are left.
pub all_left : (number : ℕ) (out : List ℕ) (count : ℕ) → count ≡ length (decimal number)
    → (length (digits count number) ≡ count) × (digits count number ++ drop count out ≡ written_at 0 (decimal number) out)
unfolding decimal written_at
all_left number out count e =
    let enough = digits_enough 20 number in
    rw (e, enough, zero-add (length (digits 20 number))) (refl, refl)

-- One digit put before those that are written.
pub put_digit : (out : List ℕ) (at left : ℕ) → 0 < at → at ≤ length out → length (digits at left) ≡ at
    → (length (digits (at - 1) (left / 10)) ≡ at - 1)
    × (digits (at - 1) (left / 10) ++ drop (at - 1) (set out (at - 1) (48 + left % 10)) ≡ digits at left ++ drop at out)
put_digit out zero left h k e = absurd (omega arith)
put_digit out (suc more) left h k e =
    let split = digits_last more left e in
    let digit = 48 + left % 10 in
    let rest : drop more (set out more digit) ≡ digit ∷ drop (suc more) out =
    ap (drop more) (set_split out more digit (omega arith))
    ∙ drop_at (take more out) (digit ∷ drop (suc more) out) more (length-take-le more out (omega arith)) in
    let less : suc more - 1 ≡ more = omega arith in
    rw less (split.0, rw (rest, split.1, append_assoc (digits more (left / 10)) (digit ∷ []) (drop (suc more) out)))
