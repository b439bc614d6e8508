-- The work rows are those of the terms, and what is refused on them alters nothing lent.
use Rattle.terms.proofs.GoodTerms.{accepted}
use Rattle.journal.proofs.resuming.resume_copy.Goals as goal

pub own_rows-own-requires : goal.own_rows-own-requires
own_rows-own-requires c =
    let size = c.args.size in
    let good = accepted size.modes c.args.terms.now size.count c.requires.checked in
    (good.given, good.at_most)
