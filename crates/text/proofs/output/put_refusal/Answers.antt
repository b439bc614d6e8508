-- The word, the number and the place, each behind what is before it.
use native.Mathlib.Omega.{arith}
use Rattle.lists.proofs.Behind.{field_wrote}
use Rattle.fields.specs.Decimal.{decimal}
use Rattle.fields.proofs.Digits.{decimal_long}
use Rattle.text.proofs.PrintedLines.{wrote_puts, refusal_wrote}
use Rattle.text.proofs.output.put_refusal.Goals as goal

pub put_field-end-requires : goal.put_field-end-requires
put_field-end-requires c =
    let put = c.put_bytes-word in
    omega (arith, decimal_long c.number-number.result, put.ensures.value, put.auto)

pub put_field-requires : goal.put_field-requires
put_field-requires c =
    let first = c.put_bytes-word in
    let second = c.put_field-end in
    omega (arith, decimal_long c.number-number.result, decimal_long c.place-place.result, first.ensures.value, first.auto, second.ensures.value, second.auto)

pub returns : goal.returns
returns c =
    let number = c.number-number in
    let place = c.place-place in
    let first = c.put_bytes-word.ensures in
    let second = c.put_field-end.ensures in
    let third = c.put_field.ensures in
    let short = decimal_long number.result in
    let near = decimal_long place.result in
    let all = refusal_wrote c.args.refusal number.result place.result number.ensures place.ensures c.args.out.now c.requires (record { behind = first.value; written = first.out_after })
    (field_wrote (decimal number.result) 9 second.value second.out_after) (field_wrote (decimal place.result) 10 third.value third.out_after) (omega arith) in
    wrote_puts all (omega arith)
