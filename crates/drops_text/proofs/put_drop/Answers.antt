-- The step with its tab, then the drops and LF.
use native.Mathlib.Omega.{arith}
use Rattle.lists.proofs.Behind.{field_wrote}
use Rattle.fields.specs.Decimal.{decimal}
use Rattle.fields.proofs.Digits.{decimal_short}
use Rattle.drops_text.proofs.DropLines.{line_wrote, line_short}
use Rattle.drops_text.proofs.put_drop.Goals as goal

pub put_field-end-requires : goal.put_field-end-requires
put_field-end-requires c = omega (arith, decimal_short c.args.step (omega (arith, c.requires.1)), c.requires.0)

pub put_field-requires : goal.put_field-requires
put_field-requires c =
    omega (arith, decimal_short c.args.step (omega (arith, c.requires.1)), decimal_short c.args.count (omega (arith, c.requires.2)), c.requires.0, c.put_field-end.ensures.value)

pub returns : goal.returns
returns c =
    let args = c.args in
    let first = c.put_field-end in
    let second = c.put_field in
    let small = decimal_short c.args.step (omega (arith, c.requires.1)) in
    let line = line_wrote args.step args.count (field_wrote (decimal args.step) 9 first.ensures.value first.ensures.out_after)
    (field_wrote (decimal args.count) 10 second.ensures.value second.ensures.out_after) (omega (arith, first.ensures.value, small, c.requires.0)) in
    record {
      value = (line.behind, omega (arith, line.behind, line_short args.step args.count (omega (arith, c.requires.1)) (omega (arith, c.requires.2))));
      out_after = line.written;
    }
