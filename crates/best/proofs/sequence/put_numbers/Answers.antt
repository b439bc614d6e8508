-- The numbers of the merges passed stand in front.
use Rattle.std.proofs.Common.{◌≡◌, refl, ◌∙◌, ap, arith, ◌+◌, ◌-◌, ◌*◌, length}
use Rattle.lists.specs.Written.{written_at}
use Rattle.lists.proofs.Written.{put_written}
use Rattle.best.specs.code.Numbered.{no_merge}
use Rattle.best.proofs.NumbersPut.{numbers_start, numbers_next}
use Rattle.best.proofs.sequence.put_numbers.Goals as goal

pub loop-step-init : goal.loop-step-init
loop-step-init c = numbers_start c.args.merges.now c.args.numbers.now

pub loop-step-preserved : goal.loop-step-preserved
loop-step-preserved c =
    let at = 3 * c.loop-step.step in
    let numbers = c.loop-step.numbers in
    let three = c.copy_from_slice.ensures.after in
    let long : length c.copy_from_slice.new.self ≡ at + 3 - at = rw three (omega arith) in
    put_written at c.copy_from_slice.new.self numbers (at + 3 - at) long
    ∙ ap (λ part. written_at at part numbers) three
    ∙ numbers_next c.args.merges.now c.args.numbers.now numbers c.loop-step.step _ no_merge c.loop-step.invariant c.loop-step-test.true refl
