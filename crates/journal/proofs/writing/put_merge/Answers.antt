-- Five fields, each behind the one before it.
use native.Mathlib.Omega.{arith}
use Rattle.journal.proofs.Texts.{length_merge, merge_wrote}
use Rattle.journal.proofs.writing.put_merge.Goals as goal

pub put_field-at-requires : goal.put_field-at-requires
put_field-at-requires c =
    let args = c.args in
    omega (arith, length_merge args.step args.triple args.weight)

pub put_field-at-requires-2 : goal.put_field-at-requires-2
put_field-at-requires-2 c =
    let args = c.args in
    omega (arith, length_merge args.step args.triple args.weight)

pub put_field-at-requires-3 : goal.put_field-at-requires-3
put_field-at-requires-3 c =
    let args = c.args in
    omega (arith, length_merge args.step args.triple args.weight)

pub put_field-at-requires-4 : goal.put_field-at-requires-4
put_field-at-requires-4 c =
    let args = c.args in
    omega (arith, length_merge args.step args.triple args.weight)

pub put_field-requires : goal.put_field-requires
put_field-requires c =
    let args = c.args in
    omega (arith, length_merge args.step args.triple args.weight)

pub returns : goal.returns
returns c =
    let args = c.args in
    let all = merge_wrote args.step args.triple args.weight args.out.now c.requires (c.put_field-at.ensures.value, c.put_field-at.ensures.out_after)
    (c.put_field-at-2.ensures.value, c.put_field-at-2.ensures.out_after) (c.put_field-at-3.ensures.value, c.put_field-at-3.ensures.out_after) (c.put_field-at-4.ensures.value, c.put_field-at-4.ensures.out_after) (c.put_field.ensures.value, c.put_field.ensures.out_after) in
    record {
      value = omega (arith, all.behind);
      out_after = all.written;
    }
