-- Some node has the pair under it.
use Rattle.std.proofs.Common.{rules, refl, arith}
use Rattle.std.proofs.lemmas.Iterator.{YieldsList-from_range}
use Rattle.std.proofs.lemmas.Iterator.Search.{any_from_yields_List}
use borrow.Author.Tests.{tests}
use Rattle.lists.proofs.Standard.{some_is}
use Rattle.tree.specs.Table.{nodes}
use Rattle.tree.specs.Pairs.{pair_right}
use Rattle.tree.proofs.Chains.{counted_is}
use Rattle.tree.proofs.table.TreeTable.pair_right.Goals as goal

pub returns : goal.returns
unfolding pair_right nodes
returns c =
    rw (some_is, counted_is)
    (any_from_yields_List _ _ _ _ c.any.ensures.ran (YieldsList-from_range 0 c.args.self.now.modes c.args.self.now.modes refl (omega arith)) (λ x b q k. search (rules, tests)))
