-- What was read and what is left give the answer: each way out of a turn is one law of the record of fields read.
use mathlib.Core.Path.{sym, ◌∙◌}
use native.Mathlib.Omega.{arith}
use lib.ListN.{length}
use Rattle.fields.proofs.ReadingFields.{reading_starts, reading_breaks, reading_goes, reading_within, reading_ends, reading_full, none}
use Rattle.nodes_text.specs.TreeInput.{is_code, code_said}
use Rattle.nodes_text.proofs.code_fields.read_codes.Goals as goal

pub loop-count-init : goal.loop-count-init
loop-count-init c =
    let args = c.args in
    reading_starts is_code code_said args.text.now args.codes.now

pub returns-in_default : goal.returns-in_default
returns-in_default c =
    let args = c.args in
    let no_code = sym c.read_code.ensures ∙ c.in_default.is in
    none is_code code_said
    (reading_breaks is_code code_said args.text.now (length args.codes.now) c.loop-count.codes c.loop-count.count c.loop-count.at c.loop-count.invariant
    (omega arith) no_code)

pub returns-then-field-text : goal.returns-then-field-text
returns-then-field-text c =
    let args = c.args in
    let good = sym c.read_code.ensures ∙ c.in-Some.is in
    reading_ends is_code code_said args.text.now (length args.codes.now) c.loop-count.codes c.loop-count.count c.loop-count.at c.loop-count.invariant
    (omega (arith, c.loop-count.invariant.size)) c.in-Some.field.number c.in-Some.field.end good c.if-field-text.true

pub overflow_add-at : goal.overflow_add-at
overflow_add-at c =
    let args = c.args in
    let good = sym c.read_code.ensures ∙ c.in-Some.is in
    let within = reading_within is_code code_said args.text.now (length args.codes.now) c.loop-count.codes c.loop-count.count c.loop-count.at c.loop-count.invariant
    (omega (arith, c.loop-count.invariant.size)) c.in-Some.field.number c.in-Some.field.end good in
    record { fits = omega arith }

pub loop-count-preserved : goal.loop-count-preserved
loop-count-preserved c =
    let args = c.args in
    let good = sym c.read_code.ensures ∙ c.in-Some.is in
    reading_goes is_code code_said args.text.now (length args.codes.now) c.loop-count.codes c.loop-count.count c.loop-count.at c.loop-count.invariant
    (omega (arith, c.loop-count.invariant.size)) c.in-Some.field.number c.in-Some.field.end good c.if-field-text.false

pub returns : goal.returns
returns c =
    let args = c.args in
    none is_code code_said
    (reading_full is_code code_said args.text.now (length args.codes.now) c.loop-count.codes c.loop-count.count c.loop-count.at c.loop-count.invariant
    (omega (arith, c.loop-count.invariant.size)))
