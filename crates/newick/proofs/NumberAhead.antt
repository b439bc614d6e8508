-- A number read digit by digit: those read so far and those ahead are the number's digits.
use mathlib.Core.Path.{◌≡◌, refl, ap, ◌∙◌, sym}
use mathlib.Core.Bool.{Bool, true, false, ◌&&◌}
use mathlib.Core.List.{List, [], ◌∷◌, ◌++◌}
use Prim.Native.Nat.{ℕ, zero, suc, ◌+◌, ◌-◌, ◌*◌, ◌≤◌}
use native.Mathlib.Numerals.{add-one}
use native.Mathlib.Omega.{arith}
use borrow.Author.Tests.{le-leb, leb-true}
use lib.Dec.{leb}
use lib.ListN.{length, get_or-eq_default}
use Rattle.lists.proofs.Tests.{both}
use Rattle.fields.specs.Decimal.{is_digit, is_number, value_after, value}
use Rattle.fields.specs.code.Reading.{goes_on}
use Rattle.fields.proofs.Numerals.{value_more, digit_bounds, digit_within}
use Rattle.fields.proofs.FieldRead.{Begun, nothing_begun, length_more, begun_more, no_digit, stops}
use Rattle.newick.specs.declared.digits.Number.{Number}
use Rattle.newick.specs.Reading.{byte_at, digits_on, number_digits}
use Rattle.newick.specs.code.Promises.{may_follow, NumberRead}

-- With one byte more, digits that a number may begin with are a number where the byte may follow them.
module _ (begun : List ℕ) (b : Begun begun) (byte : ℕ) where
  fits : is_digit byte ≡ true → goes_on (length begun) (value begun) ≡ true
      → is_number (begun ++ (byte ∷ [])) ≡ leb (10 * value begun + (byte - 48)) 65535
  unfolding is_number
  fits digit g =
      let m = begun_more begun b byte digit g in
      let some : 1 ≤ length (begun ++ (byte ∷ [])) = omega (arith, length_more begun byte) in
      rw (
        m.digits,
        le-leb 1 (length (begun ++ (byte ∷ []))) some,
        le-leb (length (begun ++ (byte ∷ []))) 5 m.short,
        m.leads,
        value_more begun byte,
      )

  number_more : is_number (begun ++ (byte ∷ [])) ≡ may_follow (length begun) (value begun) byte
  unfolding may_follow
  number_more = by_digit (is_digit byte) refl
    where
      Goal : Bool → Type 0
      Goal z = is_number (begun ++ (byte ∷ [])) ≡ z

      by_going : (z : Bool) → goes_on (length begun) (value begun) ≡ z → is_digit byte ≡ true
          → Goal (z && leb (10 * value begun + (byte - 48)) 65535)
      by_going true g digit = fits digit g
      by_going false g digit = stops begun byte [] b g

      by_digit : (z : Bool) → is_digit byte ≡ z
          → Goal (z && (goes_on (length begun) (value begun) && leb (10 * value begun + (byte - 48)) 65535))
      by_digit true digit = by_going (goes_on (length begun) (value begun)) refl digit
      by_digit false digit = no_digit begun byte [] digit

-- What a byte that may follow tells.
module _ (count so_far byte : ℕ) (e : may_follow count so_far byte ≡ true) where
  pub follows_digit : (48 ≤ byte) × (byte ≤ 57)
  unfolding may_follow
  follows_digit = digit_bounds byte (both (is_digit byte) _ e).0

  follows_on : goes_on count so_far ≡ true
  unfolding may_follow
  follows_on = (both (goes_on count so_far) _ (both (is_digit byte) _ e).1).0

  follows_fits : 10 * so_far + (byte - 48) ≤ 65535
  unfolding may_follow
  follows_fits = leb-true (10 * so_far + (byte - 48)) 65535 (both (goes_on count so_far) _ (both (is_digit byte) _ e).1).1

-- Between two digits: those begun are of this value and end here, and those ahead make them the number's digits.
pub record Midway (text : List ℕ) (at so_far end : ℕ) : Type 0 where
  pub begun : List ℕ
  pub good : Begun begun
  pub says : so_far ≡ value begun
  pub small : so_far ≤ 65535
  pub behind : end ≡ at + length begun
  pub ahead : digits_on (5 - length begun) text end begun ≡ number_digits text at

pub midway_starts : (text : List ℕ) (at : ℕ) → Midway text at 0 at
unfolding number_digits value value_after
midway_starts text at =
    record { begun = []; good = nothing_begun; says = refl; small = omega arith; behind = omega arith; ahead = refl }

module _ (text : List ℕ) (at so_far end : ℕ) (m : Midway text at so_far end) where
  follows_as : is_number (m.begun ++ (byte_at text end ∷ [])) ≡ may_follow (end - at) so_far (byte_at text end)
  follows_as =
      let e : end - at ≡ length m.begun = omega (arith, m.behind) in
      rw (e, m.says) (number_more m.begun m.good (byte_at text end))

  -- No digit more.
  module _ (e : may_follow (end - at) so_far (byte_at text end) ≡ false) where
    no_more : (more : ℕ) → m.begun ≡ digits_on more text end m.begun
    unfolding digits_on
    no_more zero = refl
    no_more (suc more) = rw (follows_as ∙ e)

    all : m.begun ≡ number_digits text at
    all = no_more (5 - length m.begun) ∙ m.ahead

    pub midway_ends : (r : Number) → r.value ≡ so_far → r.end ≡ end → end ≤ length text → NumberRead text at r
    midway_ends r v p h =
        record {
          says = v ∙ m.says ∙ ap value all;
          behind = p ∙ m.behind ∙ ap (λ l. at + length l) all;
          small = omega (arith, m.small);
          within = omega arith;
        }

  -- At the text's end no digit follows: 0 is none.
  pub none_at_end : length text ≤ end → may_follow (end - at) so_far (byte_at text end) ≡ false
  unfolding may_follow byte_at is_digit
  none_at_end h = rw (get_or-eq_default text 0 h)

  one_more : (more : ℕ) → is_number (m.begun ++ (byte_at text end ∷ [])) ≡ true
      → digits_on more text (end + 1) (m.begun ++ (byte_at text end ∷ [])) ≡ digits_on (suc more) text end m.begun
  unfolding digits_on
  one_more more f = rw (f, add-one end)

  -- One digit more.
  pub midway_goes : may_follow (end - at) so_far (byte_at text end) ≡ true
      → Midway text at (10 * so_far + (byte_at text end - 48)) (end + 1)
  midway_goes e =
      let longer = m.begun ++ (byte_at text end ∷ []) in
      let digit = digit_within (byte_at text end) (follows_digit (end - at) so_far (byte_at text end) e).0
      (follows_digit (end - at) so_far (byte_at text end) e).1 in
      let c : end - at ≡ length m.begun = omega (arith, m.behind) in
      let on : goes_on (length m.begun) (value m.begun) ≡ true =
      rw (c, m.says) at (follows_on (end - at) so_far (byte_at text end) e) in
      let good = begun_more m.begun m.good (byte_at text end) digit on in
      let left : 5 - length m.begun ≡ suc (5 - length longer) = omega (arith, good.short, length_more m.begun (byte_at text end)) in
      record {
        begun = longer;
        good = good;
        says = rw m.says (sym (value_more m.begun (byte_at text end)));
        small = follows_fits (end - at) so_far (byte_at text end) e;
        behind = omega (arith, m.behind, length_more m.begun (byte_at text end));
        ahead = one_more (5 - length longer) (follows_as ∙ e) ∙ ap (λ n. digits_on n text end m.begun) (sym left) ∙ m.ahead;
      }
