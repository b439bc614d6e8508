-- The bytes of the numbers passed stand at the front.
use Rattle.std.proofs.Common.{sym, ◌∙◌, arith}
use mathlib.Core.List.{flat_map}
use Rattle.lists.proofs.Behind.{nothing_written}
use Rattle.call_bytes.specs.Bytes.{two_bytes}
use Rattle.call_bytes.proofs.WordSteps.{two_next}
use Rattle.call_bytes.proofs.words.put_words.Goals as goal

pub loop-at-init : goal.loop-at-init
unfolding two_bytes flat_map
loop-at-init c = sym (nothing_written 0 c.args.out.now)

pub loop-at-preserved : goal.loop-at-preserved
loop-at-preserved c =
    c.put_word.ensures ∙ two_next c.args.numbers.now c.args.out.now c.loop-at.out c.loop-at.at (omega arith) c.loop-at.invariant
