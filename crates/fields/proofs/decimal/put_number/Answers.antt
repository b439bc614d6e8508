-- The digits of what is left, before those that are written, are always the number; at the end nothing is left.
use Rattle.std.proofs.Common.{arith, ◌≡◌, ◌∙◌}
use Rattle.fields.proofs.Digits.{all_left, put_digit, no_digits}
use Rattle.fields.proofs.decimal.put_number.Goals as goal

pub loop-place-init : goal.loop-place-init
loop-place-init c =
    all_left c.args.number c.args.out.now c.digit_count-count.result c.digit_count-count.ensures.0

pub loop-place-preserved : goal.loop-place-preserved
loop-place-preserved c =
    let out = c.loop-place.out in
    let step = put_digit out c.loop-place.place c.loop-place.left (omega arith) (omega arith) c.loop-place.invariant.0 in
    (step.0, rw c.last_digit.ensures (step.1 ∙ c.loop-place.invariant.1))

pub returns : goal.returns
returns c =
    let none : c.loop-place.place ≡ 0 = omega arith in
    record {
      value = c.digit_count-count.ensures;
      out_after = rw (none, no_digits) at c.loop-place.invariant.1;
    }
