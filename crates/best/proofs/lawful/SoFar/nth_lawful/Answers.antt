-- The chain gives the lawful triples in their order, and then the one of this number.
use Rattle.std.proofs.Common.{rules, ◌∙◌, sym, ap, ◌*◌, reverse, get_or, arith, tests}
use Rattle.std.proofs.lemmas.Iterator.{YieldsList-from_range, YieldsList-from_map}
use Rattle.std.proofs.lemmas.Iterator.Adapters.{option_map_id}
use Rattle.std.proofs.lemmas.Iterator.Consumers.{YieldsList-at, YieldsList-from_filter, nth_from_yields_List}
use Rattle.std.proofs.lemmas.Option.{unwrap_or-slice_get}
use Rattle.std.specs.Option.{unwrap_or}
use Rattle.history.specs.computed.Pairs.{is_lawful}
use Rattle.best.specs.code.Numbered.{no_merge, triple_at}
use Rattle.best.proofs.LawfulNumbered.{lawful_numbered}
use Rattle.best.proofs.lawful.SoFar.nth_lawful.Goals as goal

pub returns : goal.returns
returns c =
    let args = c.args in
    let merges = args.self.now.merges.now in
    let modes = args.self.now.modes in
    let count = c.parent_number-count.result in
    let end = count * (count * count) in
    let nth = nth_from_yields_List c.nth.result _ args.number c.nth.ensures.ran
    (YieldsList-from_filter _ (is_lawful modes (reverse merges))
    (YieldsList-at c.filter.ensures.source
    (YieldsList-from_map _ (triple_at count) (YieldsList-from_range 0 end end c.map.ensures.source (omega arith)) c.map.ensures.closure
    (λ x r q k. search (rules, tests))))
    c.filter.ensures.closure (λ x b q k. search (rules, tests))) in
    c.unwrap_or.ensures ∙ ap (λ o. unwrap_or o no_merge) (sym (option_map_id c.nth.result) ∙ nth) ∙ unwrap_or-slice_get _ args.number no_merge
    ∙ ap (λ l. get_or l args.number no_merge) (lawful_numbered modes count merges c.parent_number-count.ensures)
