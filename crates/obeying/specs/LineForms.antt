-- "Header: `hatt`, `1`, n, T. Then one line a merge: step, x, y, z, weight."
use Rattle.obeying.specs.declared.header.HeaderLine.{HeaderLine}
use Rattle.obeying.specs.declared.merge_line.MergeLine.{MergeLine}
use Rattle.std.specs.Prelude.{Bool, cond, ◌&&◌, List, [], ◌∷◌, ◌++◌, map, ℕ, eqb, length, get_or, drop, None, Option, Some}
use Rattle.lists.specs.Members.{every, alike}
use Rattle.entities.specs.declared.Triple.{Triple}
use Rattle.fields.specs.Texts.{spelt}
use Rattle.fields.specs.Decimal.{is_number, value, decimal}
use Rattle.fields.specs.Fields.{fields, tabbed}
use Rattle.terms.specs.declared.rules.Rule.{Rule}
use Rattle.terms.specs.declared.rules.Rule.TheVariants.{Published, Keep}

-- "The header's first word becomes `keep` for the second rule."
unfoldable pub rule_word : Rule → List ℕ
rule_word Published = spelt "hatt"
rule_word Keep = spelt "keep"

-- The line says a header of this rule: its word, the version and two numbers.
unfoldable pub header_good : Rule → List (List ℕ) → Bool
header_good rule parts =
    eqb (length parts) 4
    && (alike (get_or parts 0 []) (rule_word rule) && (alike (get_or parts 1 []) (spelt "1") && every is_number (drop 2 parts)))

-- The header that a line says where its word is this rule's, and otherwise another.
unfoldable pub header_by : Rule → List ℕ → Option HeaderLine → Option HeaderLine
header_by rule line other =
    cond (header_good rule (fields line)) (Some (record { rule = rule; modes = value (get_or (fields line) 2 []); terms = value (get_or (fields line) 3 []) })) other

unfoldable pub header_of : List ℕ → Option HeaderLine
header_of line = header_by Published line (header_by Keep line None)

-- The line says a merge: five numbers.
unfoldable pub merge_good : List (List ℕ) → Bool
merge_good parts = eqb (length parts) 5 && every is_number parts

unfoldable pub merge_of_line : List ℕ → Option MergeLine
merge_of_line line =
    cond (merge_good (fields line))
    (Some
    (record {
      step = value (get_or (fields line) 0 []);
      triple = record { x = value (get_or (fields line) 1 []); y = value (get_or (fields line) 2 []); z = value (get_or (fields line) 3 []) };
      weight = value (get_or (fields line) 4 []);
    }))
    None

-- The header as it is written.
unfoldable pub header_text : Rule → ℕ → ℕ → List ℕ
header_text rule modes terms = tabbed (rule_word rule ∷ (spelt "1" ∷ (decimal modes ∷ (decimal terms ∷ [])))) ++ spelt "\n"

-- A merge line as it is written.
unfoldable pub merge_text : ℕ → Triple → ℕ → List ℕ
merge_text step triple weight =
    tabbed (map decimal (step ∷ (triple.x ∷ (triple.y ∷ (triple.z ∷ (weight ∷ [])))))) ++ spelt "\n"
