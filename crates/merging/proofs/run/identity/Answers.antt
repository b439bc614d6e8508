-- The rule gives each entry its own place.
use Rattle.std.proofs.Common.{rules, tests}
use Rattle.lists.proofs.Listed.{listed_by_place}
use Rattle.merging.proofs.run.identity.Goals as goal

pub returns : goal.returns
returns c =
    let made = c.from_fn.ensures.items in
    listed_by_place (λ entity. entity) c.from_fn.result 769 0 made.long (λ i h. let called = (made.at i 0 h).2 in search (rules, tests))
