-- What was read and what is left give the answer: each way out of a turn is one law of the record of numbers read.
use mathlib.Core.Path.{sym, ◌∙◌}
use native.Mathlib.Omega.{arith}
use lib.ListN.{length}
use Rattle.fields.specs.Decimal.{is_number, value}
use Rattle.fields.proofs.ReadingFields.{reading_starts, reading_breaks, reading_goes, reading_within, reading_ends, reading_full, none}
use Rattle.fields.proofs.numbers.read_numbers.Goals as goal

pub loop-count-init : goal.loop-count-init
loop-count-init c =
    let args = c.args in
    reading_starts is_number value args.text.now args.numbers.now

pub returns-in_default : goal.returns-in_default
returns-in_default c =
    let args = c.args in
    let no_number = sym c.read_number.ensures ∙ c.in_default.is in
    none is_number value
    (reading_breaks is_number value args.text.now (length args.numbers.now) c.loop-count.numbers c.loop-count.count c.loop-count.at c.loop-count.invariant
    (omega arith) no_number)

pub returns-then-field-text : goal.returns-then-field-text
returns-then-field-text c =
    let args = c.args in
    let good = sym c.read_number.ensures ∙ c.in-Some.is in
    reading_ends is_number value args.text.now (length args.numbers.now) c.loop-count.numbers c.loop-count.count c.loop-count.at c.loop-count.invariant
    (omega (arith, c.loop-count.invariant.size)) c.in-Some.field.number c.in-Some.field.end good c.if-field-text.true

pub overflow_add-at : goal.overflow_add-at
overflow_add-at c =
    let args = c.args in
    let good = sym c.read_number.ensures ∙ c.in-Some.is in
    let within = reading_within is_number value args.text.now (length args.numbers.now) c.loop-count.numbers c.loop-count.count c.loop-count.at c.loop-count.invariant
    (omega (arith, c.loop-count.invariant.size)) c.in-Some.field.number c.in-Some.field.end good in
    record { fits = omega arith }

pub loop-count-preserved : goal.loop-count-preserved
loop-count-preserved c =
    let args = c.args in
    let good = sym c.read_number.ensures ∙ c.in-Some.is in
    reading_goes is_number value args.text.now (length args.numbers.now) c.loop-count.numbers c.loop-count.count c.loop-count.at c.loop-count.invariant
    (omega (arith, c.loop-count.invariant.size)) c.in-Some.field.number c.in-Some.field.end good c.if-field-text.false

pub returns : goal.returns
returns c =
    let args = c.args in
    none is_number value
    (reading_full is_number value args.text.now (length args.numbers.now) c.loop-count.numbers c.loop-count.count c.loop-count.at c.loop-count.invariant
    (omega (arith, c.loop-count.invariant.size)))
