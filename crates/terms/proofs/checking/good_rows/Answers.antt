-- The good rows passed and those ahead are all the good ones: the loop passes a good row, and stops at the first bad one.
use mathlib.Core.Path.{◌∙◌, sym, ap}
use Prim.Native.Nat.{◌*◌}
use native.Mathlib.Omega.{arith}
use borrow.Author.Rules.{rules}
use lib.ListN.{length}
use Rattle.terms.proofs.GoodSteps.{rows_start, rows_pass, rows_stop, rows_end}
use Rattle.terms.proofs.RowSteps.{row_length}
use Rattle.terms.proofs.checking.good_rows.Goals as goal

pub returns-then-not-good_row : goal.returns-then-not-good_row
returns-then-not-good_row c =
    let args = c.args in
    let bad = rows_stop (2 * args.modes) args.count c.loop-place.place args.terms.now (omega arith)
    (rw c.row_at.ensures at (sym c.good_row.ensures ∙ c.if-not-good_row.true)) in
    omega arith

pub loop-place-preserved : goal.loop-place-preserved
loop-place-preserved c =
    let args = c.args in
    let good = rows_pass (2 * args.modes) args.count c.loop-place.place args.terms.now (omega arith)
    (rw c.row_at.ensures at (sym c.good_row.ensures ∙ c.if-not-good_row.false)) in
    (omega arith, c.loop-place.invariant.1 ∙ good)

pub returns : goal.returns
returns c =
    let args = c.args in
    let done = rows_end (2 * args.modes) args.count c.loop-place.place args.terms.now (omega arith) in
    omega arith
