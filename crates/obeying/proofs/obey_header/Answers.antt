-- The header is fine where its form is kept, its rule is the call's and so are both numbers.
use Rattle.std.specs.Prelude.{Some, None}
use mathlib.Core.Path.{◌≡◌, ap, ◌∙◌, sym}
use native.Mathlib.Omega.{arith}
use borrow.Author.Rules.{rules}
use Rattle.refusal.specs.declared.Refusal.TheVariants.{LineForm}
use Rattle.refusal.proofs.Told.{handed_on}
use Rattle.terms.specs.Rules.{rule_number}
use Rattle.terms.proofs.RuleNumbers.{same_rule}
use Rattle.obeying.specs.LineForms.{header_of}
use Rattle.obeying.proofs.LineObeyed.{header_broken, other_rule, other_modes, other_terms, same_header}
use Rattle.obeying.proofs.obey_header.Goals as goal
use Rattle.obeying.proofs.obey_header.Goals.{In_ok-said}

-- What the line says.
said_there : (c : In_ok-said) → header_of c.args.bytes.now ≡ Some c.in_ok-said.said
said_there c =
    let there : c.read_header.result ≡ Some c.in_ok-said.said = grind arith in
    sym c.read_header.ensures ∙ there

pub returns-then-ne : goal.returns-then-ne
returns-then-ne c job sized =
    let args = c.args in
    let other : c.in_ok-said.said.rule ≡ args.size.rule → ⊥ = search rules in
    other_rule job args.size sized _ _ (said_there (goal.at.returns-then-ne c).In_ok-said)
    (λ e. other (same_rule c.in_ok-said.said.rule args.size.rule e))

pub returns-then-from-size : goal.returns-then-from-size
returns-then-from-size c job sized =
    let args = c.args in
    let same : c.in_ok-said.said.rule ≡ args.size.rule = search rules in
    other_modes job args.size sized _ _ (said_there (goal.at.returns-then-from-size c).In_ok-said)
    (ap rule_number same) (λ e. c.if-from-size.true (c.from.ensures ∙ e))

pub returns-then-from-size-2 : goal.returns-then-from-size-2
returns-then-from-size-2 c job sized =
    let args = c.args in
    let same : c.in_ok-said.said.rule ≡ args.size.rule = search rules in
    other_terms job args.size sized _ _ (said_there (goal.at.returns-then-from-size-2 c).In_ok-said)
    (ap rule_number same) (sym c.from.ensures ∙ c.if-from-size.false) (λ e. c.if-from-size-2.true (c.from-2.ensures ∙ e))

pub returns : goal.returns
returns c job sized =
    let args = c.args in
    let same : c.in_ok-said.said.rule ≡ args.size.rule = search rules in
    same_header job args.size sized _ _ (said_there (goal.at.returns c).In_ok-said)
    (ap rule_number same) (sym c.from.ensures ∙ c.if-from-size.false) (sym c.from-2.ensures ∙ c.if-from-size-2.false)

pub returns-in_err-said : goal.returns-in_err-said
returns-in_err-said c job sized =
    let args = c.args in
    let none : c.read_header.result ≡ None = grind arith in
    let why : c.in_err-said.field-0.0 ≡ LineForm 0 = grind arith in
    rw (handed_on c.from_residual.ensures, why)
    (header_broken job args.size sized _ (sym c.read_header.ensures ∙ none))
