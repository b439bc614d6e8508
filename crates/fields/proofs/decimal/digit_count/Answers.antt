-- So many digits are passed, and those of what is left are as many as are still to be counted.
use Rattle.std.proofs.Common.{arith}
use Rattle.fields.proofs.Digits.{counting_starts, counting_ends, counting_goes, counting_full}
use Rattle.fields.proofs.decimal.digit_count.Goals as goal

pub loop-count-init : goal.loop-count-init
loop-count-init c = counting_starts c.args.number

pub returns-then-left-lt10 : goal.returns-then-left-lt10
returns-then-left-lt10 c =
    (counting_ends _ _ _ c.loop-count.invariant (omega arith), omega (arith, c.loop-count.invariant.few))

pub loop-count-preserved : goal.loop-count-preserved
loop-count-preserved c =
    counting_goes _ _ _ c.loop-count.invariant (omega arith) (omega arith)

pub returns : goal.returns
returns c =
    let full = counting_full _ _ _ c.loop-count.invariant (omega arith) in
    (omega (arith, full), omega arith)
