-- The input row is written over the first eight numbers, and the count behind them.
use mathlib.Core.Path.{◌∙◌, ap}
use Prim.Native.Nat.{◌*◌, ◌+◌}
use native.Mathlib.Omega.{arith}
use lib.ListN.{length, set, take, drop}
use Rattle.lists.proofs.Behind.{written_one}
use Rattle.terms.proofs.RowSteps.{row_length}
use Rattle.terms.proofs.counted.put_once.Goals as goal

pub returns : goal.returns
returns c =
    let place = c.args.place in
    let rows = c.args.rows.now in
    let given = take 8 (drop (8 * place) c.args.terms.now) in
    let whole = row_length 8 place c.args.terms.now c.requires.0 in
    ap (λ l. set l (9 * place + 8) 1) (rw c.row_at.ensures at c.put_row.ensures)
    ∙ written_one (9 * place) given rows (9 * place + 8) 1 (rw whole) (omega (arith, c.requires.1))
