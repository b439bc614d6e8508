-- The table so far and the rows ahead make the table of all rows.
use Rattle.std.proofs.Common.{◌∙◌, sym, ap, arith}
use Rattle.std.specs.Slice.Iter.{chunks_exact_rest}
use Rattle.tree.specs.Laying.{laid_over}
use Rattle.tree.proofs.LayingRows.{laid_next, laid_ends}
use Rattle.tree.proofs.laying.lay_rows.Goals as goal

pub loop-row-preserved : goal.loop-row-preserved
loop-row-preserved c =
    let ahead = c.in-Some.ensures.steps.1 in
    let next = laid_next c.loop-row.table c.in-Some.row.now (chunks_exact_rest c.next.new.self) (omega (arith, ahead.1)) in
    (omega arith, rw (c.lay_row.ensures, c.from.ensures) (next ∙ rw ahead.0 at c.loop-row.invariant.1))

pub returns : goal.returns
returns c =
    sym (laid_ends c.loop-row.table (chunks_exact_rest c.loop-row.row-iterator) (omega (arith, c.in-None.ensures.steps.1.0)))
    ∙ c.loop-row.invariant.1
    ∙ ap (λ l. laid_over l c.args.rows.now) (c.fill.ensures.after (λ y e. e))
