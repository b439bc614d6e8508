-- The work rows are those of the terms, once for the journal's run and once for the step.
use Rattle.terms.proofs.GoodTerms.{accepted}
use Rattle.letters_text.proofs.letters_job.Goals as goal

pub own_rows-own-requires : goal.own_rows-own-requires
own_rows-own-requires c =
    let size = c.args.size in
    let good = accepted size.modes c.args.terms.now size.count c.requires in
    (good.given, good.at_most)

pub own_rows-again-requires : goal.own_rows-again-requires
own_rows-again-requires c =
    let size = c.args.size in
    let good = accepted size.modes c.args.terms.now size.count c.requires in
    (good.given, good.at_most)

pub letters_own-requires : goal.letters_own-requires
letters_own-requires c =
    (c.args.terms.now, (c.own_rows-own.ensures.1, c.own_rows-again.ensures.1))

pub returns : goal.returns
returns c =
    c.letters_own.ensures c.args.terms.now c.own_rows-own.ensures.1 c.own_rows-again.ensures.1
