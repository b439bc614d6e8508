-- Every mode is assigned where none is left.
use Rattle.std.proofs.Common.{rules, tests, refl, ◌∙◌, arith}
use Rattle.std.proofs.lemmas.Iterator.{YieldsList-from_range}
use Rattle.std.proofs.lemmas.Iterator.Search.{all_from_yields_List}
use Rattle.choice.proofs.FreeModes.{all_taken}
use Rattle.choice.proofs.all_assigned.Goals as goal

pub returns : goal.returns
returns c =
    all_from_yields_List _ _ _ _ c.all.ensures.ran (YieldsList-from_range 0 c.args.modes c.args.modes refl (omega arith)) (λ x b q k. search (rules, tests))
    ∙ all_taken c.args.modes c.args.assigned.now
