-- What a line says, told by its fields read as numbers.
use Rattle.obeying.specs.declared.header.HeaderLine.{HeaderLine}
use Rattle.std.specs.Prelude.{None, Option, Some}
use mathlib.Core.Path.{◌≡◌, refl, ◌∙◌, sym}
use mathlib.Core.Bool.{Bool, true, false, ◌&&◌, true≢false}
use mathlib.Core.List.{List, [], ◌∷◌, map}
use Prim.Native.Nat.{ℕ, suc}
use native.Mathlib.Omega.{arith}
use borrow.Author.Tests.{eqb-true}
use lib.Dec.{eqb, eqb-suc-suc}
use lib.ListN.{length, get_or, length-append}
use Rattle.lists.specs.Members.{every, alike}
use Rattle.lists.specs.Ranges.{listed}
use Rattle.lists.proofs.Tests.{both, not_so}
use Rattle.lists.proofs.Alike.{alike_self, alike_same}
use Rattle.entities.specs.declared.Triple.{Triple}
use Rattle.fields.specs.Texts.{spelt}
use Rattle.fields.specs.Decimal.{is_number, value, decimal}
use Rattle.fields.specs.Fields.{fields}
use Rattle.fields.specs.code.Reading.{fields_good, numbers_good, opens, fields_behind, says_numbers}
use Rattle.fields.proofs.Tabbed.{no_tab}
use Rattle.fields.proofs.NumbersTabbed.{numbers_are, value_at}
use Rattle.fields.proofs.Openings.{opening, opened_fields, opens_with}
use Rattle.terms.specs.declared.rules.Rule.{Rule}
use Rattle.terms.specs.declared.rules.Rule.TheVariants.{Published, Keep}
use Rattle.terms.specs.Job.{Job}
use Rattle.obeying.specs.LineForms.{rule_word, header_good, header_by, merge_good, merge_of_line}
use Rattle.obeying.specs.Obeying.{completed, merge_by_hand}
use Rattle.obeying.specs.code.Openings.{header_opening}

pub merge_broken : (line : List ℕ) → numbers_good 5 (fields line) ≡ false → merge_of_line line ≡ None
unfolding merge_of_line merge_good fields_good
merge_broken line e = rw e

pub merge_said : (line found : List ℕ) → numbers_good 5 (fields line) ≡ true → found ≡ map value (fields line)
    → merge_of_line line
    ≡ Some
    (record {
      step = get_or found 0 0;
      triple = record { x = get_or found 1 0; y = get_or found 2 0; z = get_or found 3 0 };
      weight = get_or found 4 0;
    })
unfolding merge_of_line merge_good fields_good
merge_said line found e f =
    let p = fields line in
    rw (e, f, value_at p 0, value_at p 1, value_at p 2, value_at p 3, value_at p 4)

-- A line by hand, likewise.
module _ (job : Job) (history : List Triple) (line : List ℕ) where
  pub hand_broken : numbers_good 3 (fields line) ≡ false → merge_by_hand job history line ≡ None
  unfolding merge_by_hand fields_good
  hand_broken e = rw e

  pub hand_said : (found : List ℕ) → numbers_good 3 (fields line) ≡ true → found ≡ map value (fields line)
      → merge_by_hand job history line
      ≡ Some (completed job history (record { x = get_or found 0 0; y = get_or found 1 0; z = get_or found 2 0 }))
  unfolding merge_by_hand fields_good
  hand_said found e f = let p = fields line in rw (e, f, value_at p 0, value_at p 1, value_at p 2)

-- A header's fields: the rule's word, the version and the two numbers, as they would be written.
pub header_fields : (rule : Rule) (parts : List (List ℕ)) → header_good rule parts ≡ true
    → parts ≡ rule_word rule ∷ (spelt "1" ∷ (decimal (value (get_or parts 2 [])) ∷ (decimal (value (get_or parts 3 [])) ∷ [])))
unfolding header_good listed
header_fields rule [] e = absurd (true≢false (sym e))
header_fields rule (a ∷ []) e = absurd (true≢false (sym e))
header_fields rule (a ∷ (b ∷ rest)) e =
    let word = rule_word rule in
    let p = both (eqb (suc (suc (length rest))) 4) (alike a word && (alike b (spelt "1") && every is_number rest)) e in
    let q = both (alike a word) (alike b (spelt "1") && every is_number rest) p.1 in
    let r = both (alike b (spelt "1")) (every is_number rest) q.1 in
    let l = eqb-true (suc (suc (length rest))) 4 p.0 in
    let f = alike_same a word q.0 in
    let g = alike_same b (spelt "1") r.0 in
    let n = numbers_are 2 rest (omega arith) r.1 in
    cc

-- No rule's word has a tab.
pub word_no_tab : (rule : Rule) → every no_tab (rule_word rule) ≡ true
unfolding rule_word every no_tab
word_no_tab Published = refl
word_no_tab Keep = refl

-- Either rule's word has four letters: no journal's room turns on the rule.
pub length_word : (rule : Rule) → length (rule_word rule) ≡ 4
unfolding rule_word
length_word Published = refl
length_word Keep = refl

pub length_opening : (rule : Rule) → length (header_opening rule) ≡ 7
unfolding header_opening
length_opening rule = simp length-append (omega (arith, length_word rule))

-- With its opening a line says what the two numbers behind it say, and without it nothing.
module _ (rule : Rule) (line : List ℕ) where
  opened_header : opens (header_opening rule) line ≡ true → fields line ≡ rule_word rule ∷ (spelt "1" ∷ fields_behind (header_opening rule) line)
  unfolding opening every no_tab header_opening
  opened_header e = opened_fields (rule_word rule ∷ (spelt "1" ∷ [])) line (rw (word_no_tab rule)) e

  header_opens : header_good rule (fields line) ≡ true → opens (header_opening rule) line ≡ true
  unfolding opening header_opening
  header_opens e = opens_with (rule_word rule) ((spelt "1") ∷ []) line _ _ (header_fields rule (fields line) e)

  header_says : header_good rule (fields line) ≡ says_numbers (header_opening rule) 2 line
  unfolding header_good fields_good says_numbers
  header_says = go (opens (header_opening rule) line) refl
    where
      go : (z : Bool) → opens (header_opening rule) line ≡ z
          → header_good rule (fields line) ≡ (z && numbers_good 2 (fields_behind (header_opening rule) line))
      go true e =
          let parts = fields_behind (header_opening rule) line in
          let count : eqb (suc (suc (length parts))) 4 ≡ eqb (length parts) 2 = eqb-suc-suc (suc (length parts)) 3 ∙ eqb-suc-suc (length parts) 2 in
          rw (opened_header e, alike_self (rule_word rule), alike_self (spelt "1"), count)
      go false e = not_so (header_good rule (fields line)) (λ f. true≢false (sym (header_opens f) ∙ e))

  module _ (other : Option HeaderLine) where
    pub header_broken : says_numbers (header_opening rule) 2 line ≡ false → header_by rule line other ≡ other
    unfolding header_by
    header_broken e = rw (header_says ∙ e)

    pub header_said : (found : List ℕ) → says_numbers (header_opening rule) 2 line ≡ true → found ≡ map value (fields_behind (header_opening rule) line)
        → header_by rule line other ≡ Some (record { rule = rule; modes = get_or found 0 0; terms = get_or found 1 0 })
    unfolding header_by
    header_said found e f =
        let parts = fields_behind (header_opening rule) line in
        rw (header_says ∙ e, opened_header (header_opens (header_says ∙ e)), f, value_at parts 0, value_at parts 1)

-- What the bytes of one rule say is what the line says where they say a header, and otherwise the rest says it.
module _ (rule : Rule) (line : List ℕ) (other : Option HeaderLine) where
  pub header_first : (said : HeaderLine) → header_by rule line None ≡ Some said → header_by rule line other ≡ Some said
  unfolding header_by
  header_first said e = go (header_good rule (fields line)) refl
    where
      go : (b : Bool) → header_good rule (fields line) ≡ b → header_by rule line other ≡ Some said
      go true f = let g = rw f at e in rw f g
      go false f =
          let g : ◌≡◌ {A = Option HeaderLine} None (Some said) = rw f at e in
          let z : ◌≡◌ {A = ℕ} 0 1 = cc in
          absurd (omega arith)

  pub header_next : header_by rule line None ≡ None → header_by rule line other ≡ other
  unfolding header_by
  header_next e = go (header_good rule (fields line)) refl
    where
      go : (b : Bool) → header_good rule (fields line) ≡ b → header_by rule line other ≡ other
      go true f =
          let found : HeaderLine = record { rule = rule; modes = value (get_or (fields line) 2 []); terms = value (get_or (fields line) 3 []) } in
          let g : Some found ≡ None = rw f at e in
          let z : ◌≡◌ {A = ℕ} 0 1 = cc in
          absurd (omega arith)
      go false f = rw f
