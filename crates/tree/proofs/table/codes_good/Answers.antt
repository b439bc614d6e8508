-- The first bad code's place, or the length where all are good, is how many good codes lead.
use Rattle.std.proofs.Common.{rules, ◌∙◌, refl, not, ◌||◌, ◌*◌, ltb, eqb}
use Rattle.std.proofs.lemmas.Iterator.{YieldsList-from_slice}
use Rattle.std.proofs.lemmas.Iterator.Search.{position_from_yields_List}
use Rattle.entities.specs.Codes.{absent}
use borrow.Author.Tests.{tests}
use Rattle.tree.specs.Check.{codes_good}
use Rattle.tree.proofs.Chains.{first_failing}
use Rattle.tree.proofs.table.codes_good.Goals as goal

pub returns : goal.returns
unfolding codes_good
returns c =
    let table = c.args.table.now in
    c.unwrap_or.ensures
    ∙ first_failing _ (λ v. not (ltb v (3 * c.args.modes) || eqb v absent)) (λ v. refl) table _
    (position_from_yields_List _ _ _ _ c.position.ensures.ran (YieldsList-from_slice table cc) (λ x b q k. search (rules, tests)))
