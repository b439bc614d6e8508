-- Three fields, each behind what is before it.
use Prim.Native.Nat.{◌+◌, ◌≤◌}
use native.Mathlib.Omega.{arith}
use Rattle.lists.proofs.Behind.{field_wrote}
use Rattle.fields.specs.Decimal.{decimal}
use Rattle.fields.proofs.Digits.{decimal_long}
use Rattle.best_text.proofs.MergesPrinted.{merge_wrote}
use Rattle.best_text.proofs.merges.put_merge.Goals as goal

pub put_field-first-requires : goal.put_field-first-requires
put_field-first-requires c = omega (arith, decimal_long c.args.merge.x)

pub put_field-second-requires : goal.put_field-second-requires
put_field-second-requires c =
    let first = c.put_field-first in
    omega (arith, decimal_long c.args.merge.x, decimal_long c.args.merge.y, first.ensures.value, first.auto)

pub put_field-requires : goal.put_field-requires
put_field-requires c =
    let first = c.put_field-first in
    let second = c.put_field-second in
    omega (arith, decimal_long c.args.merge.x, decimal_long c.args.merge.y, decimal_long c.args.merge.z, first.ensures.value, first.auto, second.ensures.value, second.auto)

pub returns : goal.returns
returns c =
    let merge = c.args.merge in
    let first = c.put_field-first.ensures in
    let second = c.put_field-second.ensures in
    let third = c.put_field.ensures in
    let near : c.put_field.result ≤ c.args.at + 63 = omega (arith, first.value, second.value, third.value, decimal_long merge.x, decimal_long merge.y, decimal_long merge.z) in
    let all = merge_wrote merge c.args.out.now c.args.at c.requires (field_wrote (decimal merge.x) 9 first.value first.out_after) (field_wrote (decimal merge.y) 9 second.value second.out_after) (field_wrote (decimal merge.z) 10 third.value third.out_after) near in
    record {
      value = (all.behind, near);
      out_after = all.written;
    }
