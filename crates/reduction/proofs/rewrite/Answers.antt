-- The numbers passed are replaced, and those ahead are as they were; at the end all are replaced, and then sorted.
use Rattle.std.proofs.Common.{◌<◌, ◌≤◌, arith, length, get_or, append-nil}
use Rattle.std.proofs.lemmas.List.{take_all, drop_all, get_or_default}
use Rattle.std.proofs.lemmas.List.Edits.{map_over_more}
use Rattle.reduction.specs.Reduction.{replacement, rewriting}
use Rattle.reduction.proofs.SortedRight.{sorts}
use Rattle.reduction.proofs.rewrite.Goals as goal

pub loop-index-preserved : goal.loop-index-preserved
loop-index-preserved c =
    let term = c.args.term.now in
    let so_far = c.loop-index.term in
    let i = c.loop-index.index-index in
    let h : i < length so_far = omega arith in
    rw c.replaced.ensures
    (map_over_more (replacement c.args.triple c.args.parent) term so_far i (get_or so_far i 0) (omega arith) c.loop-index.invariant
    (get_or_default so_far i 0 _ h))

pub returns : goal.returns
unfolding rewriting
returns c =
    let term = c.args.term.now in
    let i = c.loop-index.index-index in
    let h : length term ≤ i = omega arith in
    let all = rw (take_all i term h, drop_all i term h, append-nil) at c.loop-index.invariant in
    rw (← all) (sorts c.loop-index.term c.sort_unstable.new.self c.sort_unstable.ensures.permutation c.sort_unstable.ensures.sorted)
