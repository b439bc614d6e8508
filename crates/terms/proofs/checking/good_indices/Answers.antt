-- The first test is that the indices ascend, and the second, where they do, that each is below the bound: half of it is below half of the bound.
use Rattle.std.proofs.Common.{rules, tests}
use Rattle.std.proofs.lemmas.Iterator.{YieldsList-from_slice}
use Rattle.std.proofs.lemmas.Iterator.Search.{all_from_yields_List}
use Rattle.lists.proofs.Standard.{every_is, ascends_is}
use Rattle.terms.specs.Good.{good_indices}
use Rattle.terms.proofs.GoodSteps.{half_below}
use Rattle.terms.proofs.checking.good_indices.Goals as goal

pub returns-then-is_sorted : goal.returns-then-is_sorted
unfolding good_indices
returns-then-is_sorted c =
    let indices = c.args.indices.now in
    rw (ascends_is indices _ c.is_sorted.ensures.cases, c.if-is_sorted.true, every_is _ indices)
    (all_from_yields_List _ _ _ _ c.all.ensures.ran (YieldsList-from_slice indices (cc)) (λ x b q k. search (rules, tests, half_below)))

pub returns-else-is_sorted : goal.returns-else-is_sorted
unfolding good_indices
returns-else-is_sorted c =
    rw (ascends_is c.args.indices.now _ c.is_sorted.ensures.cases, c.if-is_sorted.false)
