-- A line that was written is read back as what it was to say, and a line that says something is the one that is written for it.
use Rattle.std.proofs.lemmas.Option.{same_Some}
use Rattle.obeying.specs.declared.header.HeaderLine.{HeaderLine}
use Rattle.std.specs.Prelude.{None, Option, Some}
use mathlib.Core.Path.{◌≡◌, refl, ap, ◌∙◌}
use mathlib.Core.Bool.{Bool, true, false, ◌&&◌}
use mathlib.Core.List.{List, [], ◌∷◌, ◌++◌, map}
use Prim.Native.Nat.{ℕ, ◌-◌, ◌≤◌}
use native.Mathlib.Omega.{arith}
use borrow.Author.Tests.{eqb-true, eq-eqb, le-leb}
use lib.Dec.{eqb}
use lib.ListN.{length, get_or, drop}
use Rattle.lists.specs.Members.{every, alike}
use Rattle.lists.specs.Ranges.{listed}
use Rattle.lists.proofs.Tests.{both}
use Rattle.lists.proofs.Alike.{alike_self}
use Rattle.entities.specs.declared.Triple.{Triple}
use Rattle.fields.specs.Texts.{spelt}
use Rattle.fields.specs.Decimal.{is_number, value, decimal}
use Rattle.fields.specs.Fields.{fields, tabbed}
use Rattle.fields.specs.code.Reading.{fields_good}
use Rattle.fields.proofs.DecimalRead.{value_decimal, decimal_is_number}
use Rattle.fields.proofs.Tabbed.{no_tab}
use Rattle.fields.proofs.NumbersTabbed.{decimal_no_tab, fits, decimals_no_tab, decimals_are_numbers, values_of_decimals, fields_line, numbers_are, line_is}
use Rattle.terms.specs.declared.rules.Rule.{Rule}
use Rattle.terms.specs.declared.rules.Rule.TheVariants.{Published, Keep}
use Rattle.terms.specs.Rules.{rule_number}
use Rattle.terms.specs.Job.{Job}
use Rattle.obeying.specs.declared.merge_line.MergeLine.{MergeLine}
use Rattle.obeying.specs.LineForms.{rule_word, header_good, header_by, header_of, merge_good, merge_of_line, header_text, merge_text}
use Rattle.obeying.specs.Obeying.{went, obeyed_header, completed, merge_by_hand}
use Rattle.obeying.proofs.LineSaid.{merge_said, header_fields, word_no_tab}

module _ (rule : Rule) (modes terms : ℕ) (m : modes ≤ 65535) (t : terms ≤ 65535) where
  header_parts : fields (header_text rule modes terms) ≡ rule_word rule ∷ (spelt "1" ∷ (decimal modes ∷ (decimal terms ∷ [])))
  unfolding header_text every no_tab
  header_parts =
      fields_line (rule_word rule) ((spelt "1") ∷ (decimal modes ∷ (decimal terms ∷ [])))
      (rw (word_no_tab rule, decimal_no_tab modes, decimal_no_tab terms))

  said_back : (other : Option HeaderLine) → header_by rule (header_text rule modes terms) other ≡ Some (record { rule = rule; modes = modes; terms = terms })
  unfolding header_by header_good every
  said_back other =
      rw (header_parts, alike_self (rule_word rule), alike_self (spelt "1"), decimal_is_number modes m, decimal_is_number terms t)
      (rw (value_decimal modes m, value_decimal terms t))

  -- Another rule's word says no header of this one.
  other_word : (by : Rule) (other : Option HeaderLine) → alike (rule_word rule) (rule_word by) ≡ false → header_by by (header_text rule modes terms) other ≡ other
  unfolding header_by header_good
  other_word by other e = rw (header_parts, e)

-- A header that was written is read back.
pub header_read : (rule : Rule) (modes terms : ℕ) → modes ≤ 65535 → terms ≤ 65535 → header_of (header_text rule modes terms) ≡ Some (record { rule = rule; modes = modes; terms = terms })
unfolding header_of rule_word alike
header_read Published modes terms m t = said_back Published modes terms m t _
header_read Keep modes terms m t = other_word Keep modes terms m t Published _ refl ∙ said_back Keep modes terms m t _

-- A job's own header is obeyed.
pub own_header : (job : Job) → job.modes ≤ 65535 → length job.terms ≤ 65535
    → obeyed_header job (header_of (header_text job.rule job.modes (length job.terms))) ≡ went []
unfolding obeyed_header
own_header job few light =
    rw (header_read job.rule job.modes (length job.terms) few light)
    (rw (
      eq-eqb (rule_number job.rule) (rule_number job.rule) refl,
      eq-eqb job.modes job.modes refl,
      eq-eqb (length job.terms) (length job.terms) refl,
    ))

module _ (said : MergeLine) where
  abbrev numbers_said : List ℕ
  numbers_said = said.step ∷ (said.triple.x ∷ (said.triple.y ∷ (said.triple.z ∷ (said.weight ∷ []))))

  merge_said_back : every fits numbers_said ≡ true → merge_of_line (merge_text said.step said.triple said.weight) ≡ Some said
  unfolding merge_text fields_good
  merge_said_back e =
      let text = merge_text said.step said.triple said.weight in
      let parts : fields text ≡ map decimal numbers_said =
      fields_line (decimal said.step) (map decimal (drop 1 numbers_said)) (decimals_no_tab numbers_said e) in
      merge_said text numbers_said (rw (parts, decimals_are_numbers numbers_said e)) (rw (parts, values_of_decimals numbers_said e))

  -- A merge line that was written is read back.
  pub merge_read : said.step ≤ 65535 → said.triple.x ≤ 65535 → said.triple.y ≤ 65535 → said.triple.z ≤ 65535 → said.weight ≤ 65535
      → merge_of_line (merge_text said.step said.triple said.weight) ≡ Some said
  unfolding fits every
  merge_read s x y z w = merge_said_back (rw (le-leb _ 65535 s, le-leb _ 65535 x, le-leb _ 65535 y, le-leb _ 65535 z, le-leb _ 65535 w))

-- What a merge line's fields say.
abbrev said_by : List (List ℕ) → MergeLine
said_by parts =
    record {
      step = value (get_or parts 0 []);
      triple = record { x = value (get_or parts 1 []); y = value (get_or parts 2 []); z = value (get_or parts 3 []) };
      weight = value (get_or parts 4 []);
    }

merge_fields : (parts : List (List ℕ)) → merge_good parts ≡ true
    → parts ≡ map decimal (numbers_said (said_by parts))
unfolding merge_good listed
merge_fields parts e =
    let p = both (eqb (length parts) 5) (every is_number parts) e in
    numbers_are 5 parts (eqb-true (length parts) 5 p.0) p.1

-- A line that says a merge and ends in LF is the one that is written for it.
pub merge_written : (line : List ℕ) (said : MergeLine) → merge_of_line line ≡ Some said → get_or line (length line - 1) 0 ≡ 10
    → line ≡ merge_text said.step said.triple said.weight
unfolding merge_of_line merge_text
merge_written line said e last = go (merge_good (fields line)) refl
  where
    go : (z : Bool) → merge_good (fields line) ≡ z → line ≡ merge_text said.step said.triple said.weight
    go true f =
        let g : Some (said_by (fields line)) ≡ Some said = rw f at e in
        let same : said_by (fields line) ≡ said = cc in
        line_is line last
        ∙ ap (λ parts. tabbed parts ++ (10 ∷ [])) (merge_fields (fields line) f)
        ∙ ap (λ (m : MergeLine). merge_text m.step m.triple m.weight) same
    go false f =
        let g : None ≡ Some said = rw f at e in
        let z : ◌≡◌ {A = ℕ} 0 1 = cc in
        absurd (omega arith)

-- A line that says a header and ends in LF is the one that is written for it.
module _ (line : List ℕ) (rule : Rule) (modes terms : ℕ) (last : get_or line (length line - 1) 0 ≡ 10) where
  abbrev by_fields : Rule → HeaderLine
  by_fields by = record { rule = by; modes = value (get_or (fields line) 2 []); terms = value (get_or (fields line) 3 []) }

  abbrev header : HeaderLine
  header = record { rule = rule; modes = modes; terms = terms }

  written_so : (by : Rule) → header_good by (fields line) ≡ true → Some (by_fields by) ≡ Some header → line ≡ header_text rule modes terms
  unfolding header_text
  written_so by f g =
      let same = same_Some (by_fields by) header g in
      let r = ap (λ (found : HeaderLine). found.rule) same in
      let m = ap (λ (found : HeaderLine). found.modes) same in
      let t = ap (λ (found : HeaderLine). found.terms) same in
      line_is line last ∙ ap (λ parts. tabbed parts ++ (10 ∷ [])) (header_fields by (fields line) f) ∙ rw (r, m, t)

  written_by : (by : Rule) (other : Option HeaderLine) → header_by by line other ≡ Some header
      → (other ≡ Some header → line ≡ header_text rule modes terms) → line ≡ header_text rule modes terms
  unfolding header_by
  written_by by other e on = go (header_good by (fields line)) refl
    where
      go : (z : Bool) → header_good by (fields line) ≡ z → line ≡ header_text rule modes terms
      go true f = written_so by f (rw f at e)
      go false f = on (rw f at e)

  pub header_written : header_of line ≡ Some header → line ≡ header_text rule modes terms
  unfolding header_of
  header_written e =
      written_by Published (header_by Keep line None) e
      (λ f. written_by Keep None f (λ g. (let z : ◌≡◌ {A = ℕ} 0 1 = cc in absurd (omega arith))))

-- A line by hand that says a merge has its three numbers and no more.
pub hand_numbers : (job : Job) (history : List Triple) (line : List ℕ) (said : MergeLine) → merge_by_hand job history line ≡ Some said
    → (every is_number (fields line) ≡ true) × (map value (fields line) ≡ said.triple.x ∷ (said.triple.y ∷ (said.triple.z ∷ [])))
unfolding merge_by_hand
hand_numbers job history line said e = go (eqb (length (fields line)) 3 && every is_number (fields line)) refl
  where
    three : (parts : List (List ℕ)) → length parts ≡ 3
        → map value parts ≡ value (get_or parts 0 []) ∷ (value (get_or parts 1 []) ∷ (value (get_or parts 2 []) ∷ []))
    three [] h = absurd (omega arith)
    three (a ∷ []) h = absurd (omega arith)
    three (a ∷ (b ∷ [])) h = absurd (omega arith)
    three (a ∷ (b ∷ (c ∷ []))) h = refl
    three (a ∷ (b ∷ (c ∷ (d ∷ rest)))) h = absurd (omega arith)

    go : (z : Bool) → (eqb (length (fields line)) 3 && every is_number (fields line)) ≡ z
        → (every is_number (fields line) ≡ true) × (map value (fields line) ≡ said.triple.x ∷ (said.triple.y ∷ (said.triple.z ∷ [])))
    go true f =
        let x = value (get_or (fields line) 0 []) in
        let y = value (get_or (fields line) 1 []) in
        let z = value (get_or (fields line) 2 []) in
        let g : Some (completed job history (record { x = x; y = y; z = z })) ≡ Some said = rw f at e in
        let same : completed job history (record { x = x; y = y; z = z }) ≡ said = cc in
        let good = both (eqb (length (fields line)) 3) (every is_number (fields line)) f in (
          good.1,
          three (fields line) (eqb-true (length (fields line)) 3 good.0)
              ∙ ap (λ (m : MergeLine). m.triple.x ∷ (m.triple.y ∷ (m.triple.z ∷ []))) same,
        )
    go false f =
        let g : None ≡ Some said = rw f at e in
        let z : ◌≡◌ {A = ℕ} 0 1 = cc in
        absurd (omega arith)
