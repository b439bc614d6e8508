-- A header's first bytes: its rule's word, a tab, the version and a tab.
use Rattle.std.specs.Prelude.{List, ◌++◌, ℕ}
use Rattle.fields.specs.Texts.{spelt}
use Rattle.terms.specs.declared.rules.Rule.{Rule}
use Rattle.obeying.specs.LineForms.{rule_word}

unfoldable pub header_opening : Rule → List ℕ
header_opening rule = rule_word rule ++ spelt "\t1\t"
