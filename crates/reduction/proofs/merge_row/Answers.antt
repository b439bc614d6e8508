-- The count that stood in the row is added to the earlier one's; together they fit, since all counts do.
use native.Mathlib.Omega.{arith}
use Rattle.reduction.specs.code.Promises.{merged_rows}
use Rattle.reduction.proofs.RowReduced.{room_here, cleared_length, counts_fit}
use Rattle.reduction.proofs.merge_row.Goals as goal

pub raise_count-requires : goal.raise_count-requires
raise_count-requires c =
    let place = c.args.place in
    let rows = c.args.rows.now in
    let held = c.requires.1.held in
    record {
      work_width_in_bounds = rw c.clear_row-count.ensures.rows_after (rw (cleared_length place rows held) (omega (arith, room_here place rows held, c.requires.0)));
      more_bound = rw (c.clear_row-count.ensures.value, c.clear_row-count.ensures.rows_after) (counts_fit place rows held c.args.first c.requires.0 c.requires.1.few);
    }

pub returns : goal.returns
unfolding merged_rows
returns c =
    rw (c.clear_row-count.ensures.value, c.clear_row-count.ensures.rows_after) at c.raise_count.ensures
