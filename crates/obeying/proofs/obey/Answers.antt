-- The first state holds the call's job, and no merge is made yet.
use mathlib.Core.Path.{refl}
use mathlib.Core.List.{List}
use Prim.Native.Nat.{ℕ}
use Rattle.terms.specs.declared.job.JobSize.{JobSize}
use Rattle.terms.specs.code.Sized.{job_sized, Sized}
use Rattle.terms.proofs.RowSteps.{length_terms}
use Rattle.obeying.proofs.obey.Goals as goal

sized : (size : JobSize) (numbers : List ℕ) → Sized (job_sized size numbers) size
sized size numbers = record { modes_are = refl; rule_is = refl; count_is = length_terms 8 size.count numbers }

pub obey_journal-verdict-requires : goal.obey_journal-verdict-requires
obey_journal-verdict-requires c =
    let size = c.args.size in
    let numbers = c.requires.0 in
    let first = c.fresh-run.ensures numbers c.args.rows.now c.requires.1 in
    (job_sized size numbers, (first.0, (first.1, sized size numbers)))

pub returns : goal.returns
returns c numbers spread =
    let size = c.args.size in
    let first = c.fresh-run.ensures numbers c.args.rows.now spread in
    c.obey_journal-verdict.ensures (job_sized size numbers) first.0 first.1 (sized size numbers)
