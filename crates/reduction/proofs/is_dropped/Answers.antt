-- Each rule's line of the definition is its arm.
use Rattle.std.proofs.Common.{rules, tests}
use Rattle.std.proofs.lemmas.Iterator.{YieldsList-from_slice}
use Rattle.std.proofs.lemmas.Iterator.Search.{all_from_yields_List}
use Rattle.lists.proofs.Standard.{every_is}
use Rattle.reduction.specs.Reduction.{dropped}
use Rattle.reduction.proofs.is_dropped.Goals as goal

pub returns-in-Published : goal.returns-in-Published
unfolding dropped
returns-in-Published c =
    rw (c.in-Published.is, every_is _ c.args.term.now)
    (all_from_yields_List _ _ _ _ c.all.ensures.ran (YieldsList-from_slice c.args.term.now (cc)) (λ x b q k. search (rules, tests)))

pub returns-in-Keep : goal.returns-in-Keep
unfolding dropped
returns-in-Keep c = rw c.in-Keep.is
