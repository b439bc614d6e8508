-- The first wrong pair, or the number of modes where all are right, is how many right pairs lead.
use Rattle.std.proofs.Common.{rules, not, refl, ◌∙◌, arith}
use Rattle.std.proofs.lemmas.Iterator.{YieldsList-from_range}
use Rattle.std.proofs.lemmas.Iterator.Search.{position_from_yields_List}
use borrow.Author.Tests.{tests}
use Rattle.tree.specs.Table.{nodes}
use Rattle.tree.specs.Pairs.{pair_right, pairs_right}
use Rattle.tree.proofs.Chains.{first_failing_below}
use Rattle.tree.proofs.table.TreeTable.pairs_right.Goals as goal

pub returns : goal.returns
unfolding pairs_right nodes
returns c =
    let args = c.args.self.now in
    c.unwrap_or.ensures
    ∙ first_failing_below _ (λ k. not (pair_right args.modes args.tree.now k)) (λ k. refl) args.modes _
    (position_from_yields_List _ _ _ _ c.position.ensures.ran (YieldsList-from_range 0 args.modes args.modes refl (omega arith)) (λ x b q k. search (rules, tests)))
