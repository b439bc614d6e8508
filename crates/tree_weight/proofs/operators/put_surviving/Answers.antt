-- Row behind row, as in SurvivingRows.
use Prim.Native.Nat.{◌+◌, ◌*◌, ◌≤◌}
use native.Mathlib.Omega.{arith}
use lib.ListN.{length, take, drop}
use Rattle.lists.specs.Ranges.{ascends}
use Rattle.terms.proofs.RowSteps.{every_term_at, row_first, row_length, length_term}
use Rattle.tree_weight.proofs.SurvivingRows.{putting_starts, putting_on}
use Rattle.tree_weight.proofs.operators.put_surviving.Goals as goal

pub loop-place-init : goal.loop-place-init
loop-place-init c = putting_starts c.args.count c.args.terms.now c.args.own.now

pub surviving_row-row-requires : goal.surviving_row-row-requires
surviving_row-row-requires c =
    let rows = c.requires.ascending_rows in
    let terms = c.args.terms.now in
    let place = c.loop-place.place in
    let short = rows.held.within place (omega arith) in
    let room : 8 * place + 8 ≤ length terms = omega (arith, rows.held.room) in
    let first = row_first 8 place terms room (omega arith) in
    let whole = row_length 8 place terms room in
    let long = length_term (take 8 (drop (8 * place) terms)) (omega arith) in
    rw c.term_at.ensures (omega arith, every_term_at ascends 8 c.args.count place terms rows.ascending (omega arith))

pub loop-place-preserved : goal.loop-place-preserved
loop-place-preserved c =
    let row = c.surviving_row-row in
    rw c.put_row.ensures
    (putting_on c.args.count c.args.terms.now c.args.own.now c.loop-place.own c.loop-place.place c.loop-place.invariant (omega arith) c.requires.count_in_bounds row.result
    (rw c.term_at.ensures at row.ensures))
