-- The number is written over the front of what is left, and the byte behind it.
use native.Mathlib.Omega.{arith}
use Rattle.lists.proofs.Behind.{written_and_one}
use Rattle.fields.specs.Decimal.{decimal}
use Rattle.fields.proofs.decimal.put_field.Goals as goal

pub returns : goal.returns
returns c =
    let args = c.args in
    let put = c.put_number.ensures in
    record {
      value = omega arith;
      out_after = rw (put.out_after, put.value.0) (written_and_one args.at (decimal args.number) args.mark args.out.now (omega arith));
    }
