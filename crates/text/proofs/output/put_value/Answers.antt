-- The number is written behind the word.
use native.Mathlib.Omega.{arith}
use Rattle.lists.proofs.Behind.{then_wrote, field_wrote}
use Rattle.fields.specs.Decimal.{decimal}
use Rattle.fields.proofs.Digits.{decimal_long}
use Rattle.text.proofs.output.put_value.Goals as goal

pub put_field-requires : goal.put_field-requires
put_field-requires c =
    let put = c.put_bytes-end in
    omega (arith, decimal_long c.args.number, put.ensures.value, put.auto)

pub returns : goal.returns
returns c =
    let first = c.put_bytes-end.ensures in
    let second = c.put_field.ensures in
    let long = decimal_long c.args.number in
    let both = then_wrote (record { behind = first.value; written = first.out_after }) (field_wrote (decimal c.args.number) 10 second.value second.out_after) (omega arith) in
    record {
      value = (both.behind, omega arith);
      out_after = both.written;
    }
