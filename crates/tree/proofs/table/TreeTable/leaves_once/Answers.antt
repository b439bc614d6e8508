-- Every leaf stands once.
use Rattle.std.proofs.Common.{rules, ◌*◌, refl, arith}
use Rattle.std.proofs.lemmas.Iterator.{YieldsList-from_range}
use Rattle.std.proofs.lemmas.Iterator.Search.{all_from_yields_List}
use borrow.Author.Tests.{tests}
use Rattle.lists.proofs.Standard.{every_is}
use Rattle.tree.specs.OneTree.{leaves_once}
use Rattle.tree.proofs.Chains.{counted_is}
use Rattle.tree.proofs.table.TreeTable.leaves_once.Goals as goal

pub returns : goal.returns
unfolding leaves_once
returns c =
    rw (every_is, counted_is)
    (all_from_yields_List _ _ _ _ c.all.ensures.ran (YieldsList-from_range c.args.self.now.modes (3 * c.args.self.now.modes) (2 * c.args.self.now.modes) refl (omega arith)) (λ x b q k. search (rules, tests)))
