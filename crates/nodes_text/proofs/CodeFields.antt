-- A field read as a code: `-` told by its byte and what follows, and any other field by the number that it says.
use Rattle.std.specs.Prelude.{None, Some}
use mathlib.Core.Path.{◌≡◌, refl}
use mathlib.Core.Bool.{Bool, true, false, cond}
use mathlib.Core.List.{List, [], ◌∷◌}
use Prim.Native.Nat.{ℕ, ◌+◌, ◌<◌, ◌≤◌}
use native.Mathlib.Omega.{arith}
use borrow.Author.Tests.{ne_eqb, lt-ltb, le-ltb}
use lib.Dec.{eqb}
use lib.ListN.{length, get_or, drop, drop_of_length-le}
use Rattle.lists.specs.Members.{alike}
use Rattle.lists.proofs.Steps.{drop_step}
use Rattle.lists.proofs.Alike.{alike_same}
use Rattle.entities.specs.Codes.{absent}
use Rattle.fields.specs.Texts.{spelt}
use Rattle.fields.specs.Decimal.{is_number, value}
use Rattle.fields.specs.code.Reading.{first_field, field_read, field_at, number_at}
use Rattle.fields.proofs.Numerals.{numeral}
use Rattle.fields.proofs.ReadingFields.{field_good, field_broken}
use Rattle.nodes_text.specs.TreeInput.{is_code, code_said}

module _ (text : List ℕ) (at : ℕ) where
  abbrev field : List ℕ
  field = first_field (drop at text)

  pub dash_none : length text ≤ at → alike field (spelt "-") ≡ false
  unfolding first_field alike
  dash_none h = rw (drop_of_length-le text h)

  module _ (h : at < length text) where
    pub dash_other : (get_or text at 0 ≡ 45 → ⊥) → alike field (spelt "-") ≡ false
    unfolding first_field alike
    dash_other e = rw (drop_step text at 0 h) (go (eqb (get_or text at 0) 9))
      where
        go : (b : Bool) → alike (cond b [] (get_or text at 0 ∷ first_field (drop (at + 1) text))) (spelt "-") ≡ false
        go true = refl
        go false = rw (ne_eqb (get_or text at 0) 45 e)

    pub dash_last : get_or text at 0 ≡ 45 → length text ≤ at + 1 → alike field (spelt "-") ≡ true
    unfolding first_field alike
    dash_last e last = rw (drop_step text at 0 h, e, drop_of_length-le text last)

    pub dash_then : get_or text at 0 ≡ 45 → at + 1 < length text → alike field (spelt "-") ≡ eqb (get_or text (at + 1) 0) 9
    unfolding first_field alike
    dash_then e more = rw (drop_step text at 0 h, e, drop_step text (at + 1) 0 more) (go (eqb (get_or text (at + 1) 0) 9))
      where
        go : (b : Bool) → alike (45 ∷ cond b [] (get_or text (at + 1) 0 ∷ first_field (drop (at + 1 + 1) text))) (spelt "-") ≡ b
        go true = refl
        go false = refl

  pub code_dash : alike field (spelt "-") ≡ true → field_at is_code code_said text at ≡ Some (record { number = absent; end = at + 1 })
  unfolding field_at field_read is_code code_said alike
  code_dash e = rw (alike_same field (spelt "-") e)

  -- A field that is no `-` is read as a number, and the absent child's is none.
  module _ (other : alike field (spelt "-") ≡ false) where
    pub code_broken : number_at text at ≡ None → field_at is_code code_said text at ≡ None
    unfolding field_at field_read is_code
    code_broken e = rw (other, field_broken is_number value field (at + length field) e)

    module _ (number end : ℕ) (e : number_at text at ≡ Some (record { number = number; end = end })) where
      pub code_absent : number ≡ absent → field_at is_code code_said text at ≡ None
      unfolding field_at field_read is_code
      code_absent f =
          let good = field_good is_number value field (at + length field) number end e in
          rw (other, good.is, le-ltb (value field) absent (omega (arith, good.value_is)))

      pub code_number : (number ≡ absent → ⊥) → field_at is_code code_said text at ≡ Some (record { number = number; end = end })
      unfolding field_at field_read is_code code_said
      code_number f =
          let good = field_good is_number value field (at + length field) number end e in
          rw (other, good.is, lt-ltb (value field) absent (omega (arith, good.value_is, (numeral field good.is).fits)), good.value_is, good.behind)
