-- `-` is the absent child's code, and of any other field the number decides.
use mathlib.Core.Path.{◌≡◌, sym, ◌∙◌}
use mathlib.Core.Bool.{false}
use lib.ListN.{drop}
use Rattle.lists.specs.Members.{alike}
use Rattle.fields.specs.Texts.{spelt}
use Rattle.fields.specs.code.Reading.{first_field}
use Rattle.nodes_text.proofs.CodeFields.{code_dash, code_broken, code_absent, code_number}
use Rattle.nodes_text.proofs.code_fields.read_code.Goals as goal
use Rattle.nodes_text.proofs.code_fields.read_code.Goals.{Else-is_dash}

-- Where the field is no `-`.
other : (c : Else-is_dash) → alike (first_field (drop c.args.at c.args.text.now)) (spelt "-") ≡ false
other c = sym c.is_dash.ensures ∙ c.if-is_dash.false

pub returns-then-is_dash : goal.returns-then-is_dash
returns-then-is_dash c =
    let args = c.args in
    sym (code_dash args.text.now args.at (sym c.is_dash.ensures ∙ c.if-is_dash.true))

pub returns-in_err-field : goal.returns-in_err-field
returns-in_err-field c =
    let args = c.args in
    c.from_residual.ensures
    ∙ sym (code_broken args.text.now args.at (other (goal.at.returns-in_err-field c).Else-is_dash) (sym c.read_number.ensures ∙ c.in_err-field.was))

pub returns-then-field : goal.returns-then-field
returns-then-field c =
    let args = c.args in
    sym (code_absent args.text.now args.at (other (goal.at.returns-then-field c).Else-is_dash) _ _ (sym c.read_number.ensures ∙ c.in_ok-field.was) c.if-field.true)

pub returns : goal.returns
returns c =
    let args = c.args in
    sym (code_number args.text.now args.at (other (goal.at.returns c).Else-is_dash) _ _ (sym c.read_number.ensures ∙ c.in_ok-field.was) c.if-field.false)
