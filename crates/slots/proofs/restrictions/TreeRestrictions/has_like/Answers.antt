-- Some node of the front has the same slots.
use Rattle.std.proofs.Common.{rules, tests, ◌<◌, take, arith}
use Rattle.std.proofs.lemmas.Iterator.{YieldsList-from_slice}
use Rattle.std.proofs.lemmas.Iterator.Adapters.{serves_from_places}
use Rattle.std.proofs.lemmas.Iterator.Search.{any_from_yields_List}
use Rattle.lists.proofs.Every.{below_at}
use Rattle.lists.proofs.Standard.{some_is}
use Rattle.slots.proofs.restrictions.TreeRestrictions.has_like.Goals as goal

pub any-requires-clause-callable : goal.any-requires-clause-callable
any-requires-clause-callable c =
    let front = take c.args.count c.args.kept.now in
    serves_from_places (YieldsList-from_slice front c.iter.ensures.rest) (λ x q k. search (rules, tests))
    (λ x k h e. let low : x.now < c.args.self.now.modes = omega (arith, below_at c.args.self.now.modes front k x.now h c.requires.kept_value) in search rules)

pub returns : goal.returns
returns c =
    rw some_is (any_from_yields_List _ _ _ _ c.any.ensures.ran (YieldsList-from_slice (take c.args.count c.args.kept.now) c.iter.ensures.rest) (λ x b q k. search (rules, tests)))
