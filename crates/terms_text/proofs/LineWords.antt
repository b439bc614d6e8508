-- What a line of the input says, told by its word and the numbers behind it.
use Rattle.std.specs.Prelude.{None, Some}
use mathlib.Core.Path.{◌≡◌, refl, ap, ◌∙◌, sym}
use mathlib.Core.Bool.{Bool, true, false, ◌&&◌, true≢false}
use mathlib.Core.List.{List, [], ◌∷◌, map}
use Prim.Native.Nat.{ℕ, suc, ◌<◌, ◌≤◌}
use native.Mathlib.Omega.{arith}
use borrow.Author.Tests.{eq-eqb, leb-true, le-leb, eqb-true}
use lib.Dec.{eqb, leb, eqb-suc-suc}
use lib.ListN.{length, get_or, length-map}
use Rattle.lists.specs.Members.{every, alike}
use Rattle.lists.proofs.Tests.{both, not_so}
use Rattle.lists.proofs.Alike.{alike_self}
use Rattle.fields.specs.Texts.{spelt}
use Rattle.fields.specs.Decimal.{value}
use Rattle.fields.specs.Fields.{fields_after, fields}
use Rattle.fields.specs.code.Reading.{fields_good, numbers_good, opens, fields_behind, says_numbers}
use Rattle.fields.proofs.Tabbed.{no_tab}
use Rattle.fields.proofs.NumbersTabbed.{value_at}
use Rattle.fields.proofs.Openings.{opening, opened_fields, opens_with, two_fields}
use Rattle.terms_text.specs.Input.{modes_line, term_line, term_row}
use Rattle.terms_text.specs.code.Reading.{modes_said, term_opening, IndicesRead, TermRead}

-- The word of the first line, and a tab.
abbrev pub modes_opening : List ℕ
modes_opening = spelt "modes\t"

-- With its opening the first line says what the number behind it says, and without it nothing.
module _ (line : List ℕ) where
  opened_modes : opens modes_opening line ≡ true → fields line ≡ spelt "modes" ∷ fields_behind modes_opening line
  unfolding opening every no_tab
  opened_modes e = opened_fields (spelt "modes" ∷ []) line refl e

  modes_opens : modes_line (fields line) ≡ true → opens modes_opening line ≡ true
  unfolding modes_line opening
  modes_opens e =
      let p = both (eqb (length (fields line)) 2) _ e in
      let l = eqb-true (length (fields line)) 2 p.0 in
      opens_with (spelt "modes") [] line _ _ (two_fields (spelt "modes") (fields line) (both (alike (get_or (fields line) 0 []) (spelt "modes")) _ p.1).0 (omega arith))

  modes_says : modes_line (fields line) ≡ says_numbers modes_opening 1 line
  unfolding modes_line fields_good says_numbers
  modes_says = go (opens modes_opening line) refl
    where
      go : (z : Bool) → opens modes_opening line ≡ z → modes_line (fields line) ≡ (z && numbers_good 1 (fields_behind modes_opening line))
      go true e = rw (opened_modes e, alike_self (spelt "modes"), eqb-suc-suc (length (fields_behind modes_opening line)) 1)
      go false e = not_so (modes_line (fields line)) (λ f. true≢false (sym (modes_opens f) ∙ e))

  pub modes_broken : says_numbers modes_opening 1 line ≡ false → modes_said line ≡ None
  unfolding modes_said
  modes_broken e = rw (modes_says ∙ e)

  pub modes_told : (found : List ℕ) → says_numbers modes_opening 1 line ≡ true → found ≡ map value (fields_behind modes_opening line)
      → modes_said line ≡ Some (get_or found 0 0)
  unfolding modes_said
  modes_told found e f =
      rw (modes_says ∙ e, opened_modes (modes_opens (modes_says ∙ e)), f, value_at (fields_behind modes_opening line) 0)

-- No term: what stands in the row is not asked.
term_none : {line after : List ℕ} → (term_line (fields line) ≡ true → ⊥) → TermRead line after false
term_none {line = line} h = record { good = sym (not_so (term_line (fields line)) h); row = λ f. absurd (true≢false (sym f)) }

-- A term's fields: its word, one more at least and eight at most.
record TermFields (parts : List (List ℕ)) : Type 0 where
  first : alike (get_or parts 0 []) (spelt "term") ≡ true
  some : 2 ≤ length parts
  few : length parts ≤ 8

term_fields : (parts : List (List ℕ)) → term_line parts ≡ true → TermFields parts
unfolding term_line
term_fields parts e =
    let p = both (alike (get_or parts 0 []) (spelt "term")) _ e in
    let q = both (leb 2 (length parts)) _ p.1 in
    let r = both (leb (length parts) 8) _ q.1 in
    record { first = p.0; some = leb-true 2 (length parts) q.0; few = leb-true (length parts) 8 r.0 }

module _ (line after : List ℕ) where
  pub term_empty : length line ≡ 0 → TermRead line after false
  unfolding fields fields_after
  term_empty e = term_none {line = line} (λ f. nothing line e (term_fields (fields line) f).some)
    where
      nothing : (l : List ℕ) → length l ≡ 0 → 2 ≤ length (fields l) → ⊥
      nothing [] e h = omega arith
      nothing (byte ∷ l) e h = omega arith

  pub term_short : length (fields line) < 2 → TermRead line after false
  term_short h = term_none (λ f. omega (arith, (term_fields (fields line) f).some))

  pub term_long : 8 < length (fields line) → TermRead line after false
  term_long h = term_none (λ f. omega (arith, (term_fields (fields line) f).few))

-- With its opening a line of so many fields is a term where they are numbers, and without it none.
module _ (line : List ℕ) (count : ℕ) (size : suc count ≡ length (fields line)) (some : 1 ≤ count) (few : count ≤ 7) where
  opened_term : opens term_opening line ≡ true → fields line ≡ spelt "term" ∷ fields_behind term_opening line
  unfolding opening every no_tab
  opened_term e = opened_fields (spelt "term" ∷ []) line refl e

  term_opens : term_line (fields line) ≡ true → opens term_opening line ≡ true
  unfolding opening
  term_opens e =
      let t = term_fields (fields line) e in
      opens_with (spelt "term") [] line _ _ (two_fields (spelt "term") (fields line) t.first t.some)

  term_says : term_line (fields line) ≡ says_numbers term_opening count line
  unfolding term_line fields_good says_numbers
  term_says = go (opens term_opening line) refl
    where
      go : (z : Bool) → opens term_opening line ≡ z → term_line (fields line) ≡ (z && numbers_good count (fields_behind term_opening line))
      go true e =
          let parts = fields_behind term_opening line in
          let counted : length parts ≡ count = omega (arith, ap length (opened_term e)) in
          rw (
            opened_term e,
            alike_self (spelt "term"),
            le-leb 2 (suc (length parts)) (omega arith),
            le-leb (suc (length parts)) 8 (omega arith),
            eq-eqb (length parts) count counted,
          )
      go false e = not_so (term_line (fields line)) (λ f. true≢false (sym (term_opens f) ∙ e))

  pub term_told : (after : List ℕ) (r : Bool) → IndicesRead line count after r → TermRead line after r
  unfolding term_row
  term_told after r i =
      record {
        good = i.good ∙ sym term_says;
        row = λ f.
            let parts = fields_behind term_opening line in
            let is = opened_term (term_opens (term_says ∙ sym i.good ∙ f)) in
            let counted : length parts ≡ count = omega (arith, ap length is) in
            i.row f ∙ rw (is, length-map parts value, counted);
      }
