-- Read by the one word, and where that says no header by the other.
use mathlib.Core.Path.{refl, sym, ◌∙◌}
use Rattle.terms.specs.declared.rules.Rule.TheVariants.{Published}
use Rattle.obeying.specs.LineForms.{rule_word, header_of}
use Rattle.obeying.specs.code.Openings.{header_opening}
use Rattle.obeying.proofs.LineSaid.{header_first, header_next}
use Rattle.obeying.proofs.header.read_header.Goals as goal

pub read_by-requires : goal.read_by-requires
unfolding header_opening rule_word
read_by-requires c = refl

pub read_by-requires-2 : goal.read_by-requires-2
unfolding header_opening rule_word
read_by-requires-2 c = refl

pub returns-in-Some : goal.returns-in-Some
unfolding header_of
returns-in-Some c =
    sym (header_first Published c.args.line.now _ _
    (sym c.read_by.ensures ∙ c.in-Some.is))

pub returns : goal.returns
unfolding header_of
returns c =
    let line = c.args.line.now in
    c.read_by-2.ensures
    ∙ sym (header_next Published line _ (sym c.read_by.ensures ∙ c.in_default.is))
