-- The part that is lent is the row's term, so the row put back has the term rewritten and the same length.
use native.Mathlib.Nat.{add-sub_cancel}
use Rattle.terms.specs.Rows.{term}
use Rattle.reduction.proofs.RowRewritten.{row_rewritten}
use Rattle.reduction.proofs.rewrite_row.Goals as goal

pub returns : goal.returns
unfolding term
returns c =
    let args = c.args in
    let pre = c.requires in
    let e = c.from-count.ensures in
    rw (add-sub_cancel, e)
    (row_rewritten args.row.now pre.0 pre.1 args.triple args.parent _
    (rw (add-sub_cancel, e) at c.rewrite.ensures))
