-- The place of the first code that is this one, or the length where none is, is how many other codes lead.
use Rattle.std.proofs.Common.{rules, ◌∙◌, eqb, arith}
use Rattle.std.proofs.lemmas.Iterator.{YieldsList-from_slice}
use Rattle.std.proofs.lemmas.Iterator.Search.{position_from_yields_List}
use borrow.Author.Tests.{tests}
use Rattle.tree.specs.Table.{place_of_code}
use Rattle.tree.proofs.Chains.{first_failing}
use Rattle.tree.proofs.table.place_of.Goals as goal

pub returns : goal.returns
unfolding place_of_code
returns c =
    let table = c.args.table.now in
    c.unwrap_or.ensures
    ∙ first_failing _ (λ v. eqb v c.args.code) (λ v. grind arith) table _
    (position_from_yields_List _ _ _ _ c.position.ensures.ran (YieldsList-from_slice table cc) (λ x b q k. search (rules, tests)))
