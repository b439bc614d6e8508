-- Fields read into a room one after the other, by any test and for any value: those read, those ahead and the room left give the answer.
use Rattle.std.proofs.lemmas.Option.{same_Some}
use Rattle.fields.specs.declared.numbers.Field.{Field}
use Rattle.std.specs.Prelude.{None, Some, Option}
use mathlib.Core.Path.{◌≡◌, refl, ap, ◌∙◌, sym}
use mathlib.Core.Bool.{Bool, true, false, and-false, true≢false}
use mathlib.Core.List.{List, [], ◌∷◌, ◌++◌, map, append_assoc}
use mathlib.Core.Logic.{⊎_elim}
use Prim.Native.Nat.{ℕ, suc, ◌+◌, ◌-◌, ◌<◌, ◌≤◌}
use native.Mathlib.Nat.{sub-zero}
use native.Mathlib.Omega.{arith}
use borrow.Author.Tests.{eq-eqb, ne_eqb, eqb-true}
use lib.Dec.{eqb, eqb-suc-suc}
use lib.ListN.{length, take, drop, set, length-drop, length-set}
use lib.Seq.{drop-drop}
use Rattle.lists.specs.Members.{every}
use Rattle.lists.proofs.Tests.{same_or_not}
use Rattle.lists.proofs.Writes.{written_next, all_of}
use Rattle.fields.specs.Fields.{fields_after}
use Rattle.fields.specs.code.Reading.{first_field, field_read, field_at, fields_good, FieldsRead}
use Rattle.fields.proofs.FieldsAhead.{first_short, fields_one, fields_more, fields_head}

module _ (test : List ℕ → Bool) (says : List ℕ → ℕ) where
  -- What a field that was read is.
  pub record IsGood (field : List ℕ) (place number end : ℕ) : Type 0 where
    pub is : test field ≡ true
    pub value_is : number ≡ says field
    pub behind : end ≡ place

  pub field_good : (field : List ℕ) (place number end : ℕ) → field_read test says field place ≡ Some (record { number = number; end = end }) → IsGood field place number end
  unfolding field_read
  field_good field place number end e = go (test field) refl
    where
      go : (z : Bool) → test field ≡ z → IsGood field place number end
      go true f =
          let g : ◌≡◌ {A = Option Field} (Some (record { number = says field; end = place })) (Some (record { number = number; end = end })) = rw f at e in
          let same = same_Some _ _ g in
          record { is = f; value_is = ap (λ (field : Field). field.number) (sym same); behind = ap (λ (field : Field). field.end) (sym same) }
      go false f =
          let g : ◌≡◌ {A = Option Field} None (Some (record { number = number; end = end })) = rw f at e in
          let z : ◌≡◌ {A = ℕ} 0 1 = cc in
          absurd (omega arith)

  pub field_broken : (field : List ℕ) (place : ℕ) → field_read test says field place ≡ None → test field ≡ false
  unfolding field_read
  field_broken field place e = go (test field) refl
    where
      go : (z : Bool) → test field ≡ z → z ≡ false
      go true f =
          let g : ◌≡◌ {A = Option Field} (Some (record { number = says field; end = place })) None = rw f at e in
          let z : ◌≡◌ {A = ℕ} 0 1 = cc in
          absurd (omega arith)
      go false f = refl

  good_first : (room : ℕ) (field : List ℕ) (parts : List (List ℕ)) → test field ≡ true
      → fields_good test (suc room) (field ∷ parts) ≡ fields_good test room parts
  unfolding fields_good every
  good_first room field parts e = rw (eqb-suc-suc (length parts) room, e)

  bad_first : (room : ℕ) (field : List ℕ) (parts : List (List ℕ)) → test field ≡ false → fields_good test room (field ∷ parts) ≡ false
  unfolding fields_good every
  bad_first room field parts e = rw e (and-false (eqb (suc (length parts)) room))

  no_room : (field : List ℕ) (parts : List (List ℕ)) → fields_good test 0 (field ∷ parts) ≡ false
  unfolding fields_good
  no_room field parts = rw (ne_eqb (suc (length parts)) 0 (λ e. omega arith))

  -- An answer that is no: what stands in the room is not asked.
  pub none : {parts : List (List ℕ)} {room : ℕ} {after : List ℕ} → fields_good test room parts ≡ false → FieldsRead test says parts room after false
  none e = record { good = sym e; values = λ f. absurd (true≢false (sym f)) }

  -- So far read.
  pub record Reading (text : List ℕ) (room : ℕ) (numbers : List ℕ) (count at : ℕ) : Type 0 where
    pub size : length numbers ≡ room
    pub within : at ≤ length text
    pub some : count ≤ room
    pub good : fields_good test room (fields_after [] text) ≡ fields_good test (room - count) (fields_after [] (drop at text))
    pub values : map says (fields_after [] text) ≡ take count numbers ++ map says (fields_after [] (drop at text))

  pub reading_starts : (text numbers : List ℕ) → Reading text (length numbers) numbers 0 0
  reading_starts text numbers =
      record { size = refl; within = omega arith; some = omega arith; good = rw (sub-zero (length numbers)); values = refl }

  pub reading_full : (text : List ℕ) (room : ℕ) (numbers : List ℕ) (count at : ℕ) → Reading text room numbers count at → room ≤ count
      → fields_good test room (fields_after [] text) ≡ false
  reading_full text room numbers count at r h =
      let e : room - count ≡ 0 = omega arith in
      r.good ∙ rw (e, fields_head [] (drop at text)) (no_room (first_field (drop at text)) (drop 1 (fields_after [] (drop at text))))

  module _ (text : List ℕ) (room : ℕ) (numbers : List ℕ) (count at : ℕ) (r : Reading text room numbers count at) (h : count < room) where
    abbrev ahead : List ℕ
    ahead = drop at text

    abbrev field : List ℕ
    field = first_field ahead

    next : room - count ≡ suc (room - (count + 1))
    next = omega arith

    pub reading_breaks : field_at test says text at ≡ None → fields_good test room (fields_after [] text) ≡ false
    unfolding field_at
    reading_breaks e =
        r.good
        ∙ rw (fields_head [] ahead)
        (bad_first (room - count) field (drop 1 (fields_after [] ahead)) (field_broken field (at + length field) e))

    module _ (number end : ℕ) (e : field_at test says text at ≡ Some (record { number = number; end = end })) where
      here : IsGood field (at + length field) number end
      unfolding field_at
      here = field_good field (at + length field) number end e

      pub reading_within : end ≤ length text
      reading_within = let p = here.behind in omega (arith, first_short ahead, length-drop at text, r.within)

      filled : take (count + 1) (set numbers count number) ≡ take count numbers ++ (says field ∷ [])
      filled = written_next numbers count number (omega (arith, r.size)) ∙ rw here.value_is

      pub reading_goes : (end ≡ length text → ⊥) → Reading text room (set numbers count number) (count + 1) (end + 1)
      reading_goes more =
          let p = here.behind in
          let q = reading_within in
          let place : at + suc (length field) ≡ end + 1 = omega arith in
          let parts : fields_after [] ahead ≡ field ∷ fields_after [] (drop (end + 1) text) =
          fields_more [] ahead (rw (length-drop at text) (omega arith)) ∙ rw (drop-drop (suc (length field)) at text, place) in
          record {
            size = length-set numbers count number ∙ r.size;
            within = omega arith;
            some = omega arith;
            good = r.good ∙ rw (next, parts, good_first (room - (count + 1)) field (fields_after [] (drop (end + 1) text)) here.is);
            values = r.values ∙ rw (parts, filled, append_assoc);
          }

      pub reading_ends : end ≡ length text → FieldsRead test says (fields_after [] text) room (set numbers count number) (eqb (count + 1) room)
      unfolding fields_good every
      reading_ends last =
          let p = here.behind in
          let parts : fields_after [] ahead ≡ field ∷ [] = fields_one [] ahead (rw (length-drop at text) (omega arith)) in
          record {
            good =
                ⊎_elim
                (λ e. let f : room - (count + 1) ≡ 0 = omega arith in
                eq-eqb (count + 1) room e ∙ sym (r.good ∙ rw (next, parts, good_first (room - (count + 1)) field [] here.is, f)))
                (λ e.
                ne_eqb (count + 1) room e
                ∙ sym
                (r.good
                ∙ rw (next, parts, good_first (room - (count + 1)) field [] here.is, ne_eqb 0 (room - (count + 1)) (λ f. e (omega arith)))))
                (same_or_not (count + 1) room);
            values = λ e.
                let f = eqb-true (count + 1) room e in
                all_of (set numbers count number) (map says (fields_after [] text)) (count + 1)
                (rw (length-set numbers count number, r.size) (omega arith)) (filled ∙ sym (r.values ∙ rw parts));
          }
