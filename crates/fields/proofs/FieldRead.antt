-- A field read byte by byte: as long as digits come that may follow, what was read and what is left say whether the field is a number.
use Rattle.fields.specs.declared.numbers.Field.{Field}
use Rattle.std.specs.Prelude.{None, Option}
use mathlib.Core.Path.{◌≡◌, refl, ◌∙◌, sym}
use mathlib.Core.Bool.{Bool, true, false, cond, ◌&&◌, ◌||◌, true≢false}
use mathlib.Core.Logic.{⊎_elim}
use mathlib.Core.List.{List, [], ◌∷◌, ◌++◌, append_assoc, append-nil}
use Prim.Native.Nat.{ℕ, zero, suc, ◌+◌, ◌-◌, ◌*◌, ◌<◌, ◌≤◌}
use native.Mathlib.Nat.{add-zero}
use native.Mathlib.Numerals.{add-one}
use native.Mathlib.Omega.{arith}
use borrow.Author.Tests.{eqb-true, eqb-false, eq-eqb, ne_eqb, ltb-true, ltb-false, leb-true, leb-false, le-leb}
use lib.Dec.{eqb, ltb, leb}
use lib.ListN.{length, get_or, drop, drop_of_length-le, length-append}
use Rattle.lists.specs.Members.{every}
use Rattle.lists.proofs.Steps.{drop_step}
use Rattle.lists.proofs.Tests.{both, either, neither, same_or_not, not_so}
use Rattle.lists.proofs.Every.{every_append, every_cons, every_uncons, every_fails}
use Rattle.fields.specs.Decimal.{is_digit, value_after, value, leads_well, is_number}
use Rattle.fields.specs.code.Reading.{first_field, field_read, field_at, number_at, goes_on, ended_at}
use Rattle.fields.proofs.Numerals.{numeral, digit_bounds, value_more, value_beyond, leads_first}

-- What comes of reading on, with so many digits of this value read.
unfoldable pub read_after : ℕ → ℕ → ℕ → List ℕ → Option Field
read_after count so_far place [] = ended_at count so_far place
read_after count so_far place (byte ∷ rest) =
    cond (eqb byte 9) (ended_at count so_far place)
    (cond (is_digit byte && goes_on count so_far) (read_after (suc count) (10 * so_far + (byte - 48)) (suc place) rest) None)

-- One byte of it, behind as many bytes as there are digits.
module _ (count so_far place : ℕ) (text : List ℕ) where
  pub read_ends : length text ≤ count → read_after count so_far place (drop count text) ≡ ended_at count so_far place
  unfolding read_after
  read_ends h = rw (drop_of_length-le text h)

  module _ (h : count < length text) where
    pub read_tab : get_or text count 0 ≡ 9 → read_after count so_far place (drop count text) ≡ ended_at count so_far place
    unfolding read_after
    read_tab e = rw (drop_step text count 0 h) (rw (eq-eqb (get_or text count 0) 9 e))

    pub read_other : (get_or text count 0 ≡ 9 → ⊥) → is_digit (get_or text count 0) ≡ false
        → read_after count so_far place (drop count text) ≡ None
    unfolding read_after
    read_other e f = rw (drop_step text count 0 h) (rw (ne_eqb (get_or text count 0) 9 e, f))

    not_tab : is_digit (get_or text count 0) ≡ true → get_or text count 0 ≡ 9 → ⊥
    not_tab f e = let p = digit_bounds (get_or text count 0) f in omega arith

    pub read_stops : is_digit (get_or text count 0) ≡ true → goes_on count so_far ≡ false
        → read_after count so_far place (drop count text) ≡ None
    unfolding read_after
    read_stops f g = rw (drop_step text count 0 h) (rw (ne_eqb (get_or text count 0) 9 (not_tab f), f, g))

    pub read_passes : is_digit (get_or text count 0) ≡ true → goes_on count so_far ≡ true
        → read_after count so_far place (drop count text)
        ≡ read_after (count + 1) (10 * so_far + (get_or text count 0 - 48)) (place + 1) (drop (count + 1) text)
    unfolding read_after
    read_passes f g =
        rw (drop_step text count 0 h) (rw (ne_eqb (get_or text count 0) 9 (not_tab f), f, g, add-one place, add-one count))

-- What a digit may follow leaves room for it.
pub goes_room : (count so_far : ℕ) → goes_on count so_far ≡ true → so_far ≤ 6553
unfolding goes_on
goes_room count so_far g = leb-true so_far 6553 (both (leb so_far 6553) (ltb 0 so_far || eqb count 0) g).0

-- The least value of so many digits without a leading 0.
unfoldable pub least : ℕ → ℕ
least zero = 0
least (suc zero) = 0
least (suc (suc zero)) = 10
least (suc (suc (suc more))) = 10 * least (suc (suc more))

-- Digits that a number may begin with.
pub record Begun (begun : List ℕ) : Type 0 where
  pub digits : every is_digit begun ≡ true
  pub short : length begun ≤ 5
  pub leads : leads_well begun ≡ true
  pub size : least (length begun) ≤ value begun

pub nothing_begun : Begun []
unfolding every leads_well least value
nothing_begun = record { digits = refl; short = omega arith; leads = refl; size = omega arith }

begun_ends : (begun : List ℕ) (place : ℕ) → Begun begun → ended_at (length begun) (value begun) place ≡ field_read is_number value begun place
unfolding ended_at field_read is_number
begun_ends begun place b = rw (b.digits, le-leb (length begun) 5 b.short, b.leads)

least_more : (count so_far digit : ℕ) → least count ≤ so_far → (1 ≤ count → 0 < so_far) → least (suc count) ≤ 10 * so_far + digit
unfolding least
least_more zero so_far digit h on = omega arith
least_more (suc zero) so_far digit h on = omega (arith, on (omega arith))
least_more (suc (suc more)) so_far digit h on = omega arith

short_more : (count so_far : ℕ) → count ≤ 5 → least count ≤ so_far → so_far ≤ 6553 → suc count ≤ 5
unfolding least
short_more count so_far h k l = ⊎_elim (λ e. absurd (omega (arith, rw e at k))) (λ e. omega arith) (same_or_not count 5)

leads_more : (begun : List ℕ) (byte : ℕ) → leads_well begun ≡ true → (1 ≤ length begun → 0 < value begun)
    → leads_well (begun ++ (byte ∷ [])) ≡ true
unfolding leads_well value value_after
leads_more [] byte e on = refl
leads_more (a ∷ []) byte e on = let p = on (omega arith) in rw (ne_eqb a 48 (λ f. omega arith))
leads_more (a ∷ (c ∷ l)) byte e on = e

pub length_more : (begun : List ℕ) (byte : ℕ) → length (begun ++ (byte ∷ [])) ≡ suc (length begun)
length_more begun byte = length-append begun (byte ∷ []) ∙ add-one (length begun)

-- Another digit behind them.
module _ (begun : List ℕ) (b : Begun begun) where
  may_follow : goes_on (length begun) (value begun) ≡ true → 1 ≤ length begun → (0 < value begun) × (value begun ≤ 6553)
  unfolding goes_on
  may_follow g h =
      let p = both (leb (value begun) 6553) (ltb 0 (value begun) || eqb (length begun) 0) g in (
        ⊎_elim (λ e. ltb-true 0 (value begun) e) (λ e. absurd (omega (arith, eqb-true (length begun) 0 e)))
            (either (ltb 0 (value begun)) (eqb (length begun) 0) p.1),
        leb-true (value begun) 6553 p.0,
      )

  pub begun_more : (byte : ℕ) → is_digit byte ≡ true → goes_on (length begun) (value begun) ≡ true → Begun (begun ++ (byte ∷ []))
  unfolding every
  begun_more byte digit g =
      let above : 1 ≤ length begun → 0 < value begun = λ h. (may_follow g h).0 in
      let room : suc (length begun) ≤ 5 =
      ⊎_elim (λ e. omega arith) (λ e. short_more (length begun) (value begun) b.short b.size (may_follow g (omega arith)).1)
      (same_or_not (length begun) 0) in
      record {
        digits = every_append is_digit begun (byte ∷ []) b.digits (every_cons is_digit byte [] digit refl);
        short = rw (length_more begun byte) room;
        leads = leads_more begun byte b.leads above;
        size = rw (length_more begun byte, value_more begun byte) (least_more (length begun) (value begun) (byte - 48) b.size above);
      }

-- What can't be a number, whatever follows.
module _ (begun : List ℕ) (byte : ℕ) (rest : List ℕ) where
  pub no_digit : is_digit byte ≡ false → is_number (begun ++ (byte ∷ rest)) ≡ false
  no_digit e =
      not_so (is_number (begun ++ (byte ∷ rest)))
      (λ f. true≢false (sym (numeral (begun ++ (byte ∷ rest)) f).digits ∙ every_fails is_digit begun byte rest e))

  too_large : 6553 < value begun → is_number (begun ++ (byte ∷ rest)) ≡ false
  too_large h =
      not_so (is_number (begun ++ (byte ∷ rest)))
      (λ f. omega (arith, (numeral (begun ++ (byte ∷ rest)) f).fits, value_beyond begun byte rest))

least_two : (more : ℕ) → 10 ≤ least (suc (suc more))
unfolding least
least_two zero = omega arith
least_two (suc more) = omega (arith, least_two more)

no_lead : (begun : List ℕ) (byte : ℕ) (rest : List ℕ) → Begun begun → 1 ≤ length begun → value begun ≡ 0
    → is_number (begun ++ (byte ∷ rest)) ≡ false
unfolding value value_after
no_lead [] byte rest b h e = absurd (omega arith)
no_lead (a ∷ []) byte rest b h e =
    let p = digit_bounds a (every_uncons is_digit a [] b.digits).0 in
    not_so (is_number (a ∷ (byte ∷ rest))) (λ f. leads_first a byte rest (numeral (a ∷ (byte ∷ rest)) f).leads (omega arith))
no_lead (a ∷ (c ∷ l)) byte rest b h e = absurd (omega (arith, least_two (length l), b.size))

-- A digit that may not follow.
pub stops : (begun : List ℕ) (byte : ℕ) (rest : List ℕ) → Begun begun → goes_on (length begun) (value begun) ≡ false
    → is_number (begun ++ (byte ∷ rest)) ≡ false
unfolding goes_on
stops begun byte rest b g = go (leb (value begun) 6553) refl
  where
    go : (z : Bool) → leb (value begun) 6553 ≡ z → is_number (begun ++ (byte ∷ rest)) ≡ false
    go true e =
        let p = neither (ltb 0 (value begun)) (eqb (length begun) 0) (rw e at g) in
        no_lead begun byte rest b (omega (arith, eqb-false (length begun) 0 p.1)) (omega (arith, ltb-false 0 (value begun) p.0))
    go false e = too_large begun byte rest (leb-false (value begun) 6553 e)

-- Reading on from digits that a number may begin with.
read_is : (begun rest : List ℕ) (place : ℕ) → Begun begun
    → read_after (length begun) (value begun) place rest ≡ field_read is_number value (begun ++ first_field rest) (place + length (first_field rest))
unfolding read_after first_field field_read
read_is begun [] place b = rw (append-nil begun, add-zero place) (begun_ends begun place b)
read_is begun (byte ∷ rest) place b =
    by_tab (eqb byte 9) refl
    (λ digit g. read_is (begun ++ (byte ∷ [])) rest (suc place) (begun_more begun b byte digit g))
  where
    more : List ℕ
    more = begun ++ (byte ∷ [])

    On : Type 0
    On =
        is_digit byte ≡ true → goes_on (length begun) (value begun) ≡ true
        → read_after (length more) (value more) (suc place) rest ≡ field_read is_number value (more ++ first_field rest) (suc place + length (first_field rest))

    Goal : Type 0
    Goal =
        read_after (length begun) (value begun) place (byte ∷ rest)
        ≡ field_read is_number value (begun ++ first_field (byte ∷ rest)) (place + length (first_field (byte ∷ rest)))

    field : List ℕ
    field = begun ++ (byte ∷ first_field rest)

    Next : Bool → Type 0
    Next z =
        cond z (read_after (suc (length begun)) (10 * value begun + (byte - 48)) (suc place) rest) None
        ≡ field_read is_number value field (place + suc (length (first_field rest)))

    broken : is_number field ≡ false → Next false
    broken e = rw e

    by_going : (z : Bool) → goes_on (length begun) (value begun) ≡ z → is_digit byte ≡ true → On → Next z
    by_going true g digit on =
        let e : suc place + length (first_field rest) ≡ place + suc (length (first_field rest)) = omega arith in
        rw (← length_more begun byte, ← value_more begun byte, ← e, ← append_assoc begun (byte ∷ []) (first_field rest)) (on digit g)
    by_going false g digit on = broken (stops begun byte (first_field rest) b g)

    by_digit : (z : Bool) → is_digit byte ≡ z → On → Next (z && goes_on (length begun) (value begun))
    by_digit true digit on = by_going (goes_on (length begun) (value begun)) refl digit on
    by_digit false digit on = broken (no_digit begun byte (first_field rest) digit)

    by_tab : (z : Bool) → eqb byte 9 ≡ z → On → Goal
    by_tab true e on = rw (e, append-nil begun, add-zero place) (begun_ends begun place b)
    by_tab false e on = rw e (by_digit (is_digit byte) refl on)

pub read_starts : (text : List ℕ) (at : ℕ) → number_at text at ≡ read_after 0 0 at (drop at text)
unfolding field_at value value_after
read_starts text at = sym (read_is [] (drop at text) at nothing_begun)
