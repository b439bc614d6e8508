-- The parity so far and that of what is ahead give the whole.
use Rattle.std.proofs.Common.{arith, get_or}
use Rattle.lists.proofs.Standard.{same_is}
use Rattle.lists.proofs.Steps.{occurrences_step, occurrences_end}
use Rattle.terms.proofs.weight.odd_in.Goals as goal

pub loop-index-preserved : goal.loop-index-preserved
loop-index-preserved c =
    let args = c.args in
    let at = c.loop-index.index-index in
    let step = occurrences_step args.number args.term.now at (omega arith) in
    let one = same_is (get_or args.term.now at 0) args.number in
    omega arith

pub returns : goal.returns
returns c =
    let args = c.args in
    let done = occurrences_end args.number args.term.now c.loop-index.index-index (omega arith) in
    omega arith
