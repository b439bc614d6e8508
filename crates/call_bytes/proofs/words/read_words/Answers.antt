-- The numbers passed are what the bytes say.
use Rattle.std.proofs.Common.{◌+◌, ap, ◌∙◌, take, set, arith, refl}
use Rattle.lists.specs.Ranges.{listed}
use Rattle.call_bytes.proofs.WordSteps.{word_next}
use Rattle.call_bytes.proofs.words.read_words.Goals as goal

pub loop-at-init : goal.loop-at-init
unfolding listed
loop-at-init c = refl

pub loop-at-preserved : goal.loop-at-preserved
loop-at-preserved c =
    let numbers = c.loop-at.numbers in
    let at = c.loop-at.at in
    ap (λ v. take (at + 1) (set numbers at v)) c.word.ensures
    ∙ word_next c.args.bytes.now numbers at (omega arith) c.loop-at.invariant
