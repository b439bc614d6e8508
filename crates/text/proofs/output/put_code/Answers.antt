-- The absent child is one byte, any other code its digits, and the mark stands behind.
use native.Mathlib.Omega.{arith}
use Rattle.fields.proofs.Digits.{decimal_short}
use Rattle.text.proofs.PrintedLines.{code_absent, code_number}
use Rattle.text.proofs.output.put_code.Goals as goal

pub returns-then-code-eq-ABSENT : goal.returns-then-code-eq-ABSENT
returns-then-code-eq-ABSENT c =
    let put = c.put_bytes.ensures in
    record {
      value = rw (code_absent c.args.code c.if-code-eq-ABSENT.true) ((put.value, omega arith));
      out_after = rw (code_absent c.args.code c.if-code-eq-ABSENT.true) put.out_after;
    }

pub put_field-requires : goal.put_field-requires
put_field-requires c =
    omega (arith, decimal_short c.args.code (omega arith))

pub returns : goal.returns
returns c =
    let put = c.put_field.ensures in
    let short = decimal_short c.args.code (omega arith) in
    record {
      value = rw (code_number c.args.code c.if-code-eq-ABSENT.false) ((put.value, omega (arith, put.value)));
      out_after = rw (code_number c.args.code c.if-code-eq-ABSENT.false) (put.out_after);
    }
