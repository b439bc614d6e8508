-- What every header of the rule begins with, then two fields, each behind what is before it.
use native.Mathlib.Omega.{arith}
use Rattle.obeying.proofs.LineSaid.{length_opening}
use Rattle.journal.proofs.Texts.{length_header, header_wrote}
use Rattle.journal.proofs.writing.put_header.Goals as goal

pub put_opening-front-requires : goal.put_opening-front-requires
put_opening-front-requires c =
    let args = c.args in
    omega (arith, length_header args.rule args.modes args.terms)

pub put_field-at-requires : goal.put_field-at-requires
put_field-at-requires c =
    let args = c.args in
    omega (arith, length_header args.rule args.modes args.terms, c.put_opening-front.ensures.value)

pub put_field-requires : goal.put_field-requires
put_field-requires c =
    let args = c.args in
    omega (arith, length_header args.rule args.modes args.terms, c.put_opening-front.ensures.value, c.put_field-at.ensures.value)

pub returns : goal.returns
returns c =
    let args = c.args in
    let front = c.put_opening-front.ensures in
    let all = header_wrote args.rule args.modes args.terms args.out.now c.requires
    (record { behind = omega (arith, front.value, length_opening args.rule); written = front.out_after })
    (c.put_field-at.ensures.value, c.put_field-at.ensures.out_after) (c.put_field.ensures.value, c.put_field.ensures.out_after) in
    record {
      value = omega (arith, all.behind);
      out_after = all.written;
    }
