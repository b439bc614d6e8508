-- There is one field more than tabs.
use Rattle.std.proofs.Common.{rules, tests, eqb}
use Rattle.std.proofs.lemmas.Iterator.{YieldsList-from_slice}
use Rattle.std.proofs.lemmas.Iterator.Consumers.{YieldsList-from_filter, YieldsList-at, count_from_yields_List}
use Rattle.fields.proofs.FieldsCounted.{fields_counted}
use Rattle.fields.proofs.numbers.field_count.Goals as goal

pub returns : goal.returns
returns c =
    let text = c.args.text.now in
    let tabs = count_from_yields_List c.filter.result c.count.result c.count.ensures.ran
    (YieldsList-from_filter _ (λ byte. eqb byte 9) (YieldsList-at c.filter.ensures.source (YieldsList-from_slice text c.iter.ensures.rest))
    c.filter.ensures.closure (λ x b q k. search (rules, tests))) in
    rw tabs (fields_counted text)
