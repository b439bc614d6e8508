-- A row that is gone is left, and on no chain; any other is rewritten where it stands, and then settled.
use mathlib.Core.Path.{◌≡◌, ◌∙◌, sym}
use Prim.Native.Nat.{◌+◌, ◌-◌, ◌*◌}
use native.Mathlib.Nat.{add-sub_cancel_left}
use native.Mathlib.Omega.{arith}
use borrow.Rule.Slice.PartMut.{put_mid}
use lib.ListN.{length, take, drop}
use Rattle.lists.specs.Written.{written_at}
use Rattle.lists.proofs.Written.{put_written}
use Rattle.terms.proofs.RowSteps.{row_length, row_first, terms_more}
use Rattle.reduction.specs.code.Promises.{Rewritten}
use Rattle.reduction.proofs.RowReduced.{room_here, gone_term, stays_gone, between_worked, between_terms, between_there, then_settled}
use Rattle.reduction.proofs.ChainedRows.{row_gone}
use Rattle.reduction.proofs.reduce_row.Goals as goal
use Rattle.reduction.proofs.reduce_row.Goals.{After-rewrite_row}

-- The part that was lent is the row, and it came back as the row rewritten.
row_rewritten : (c : After-rewrite_row)
    → Rewritten c.args.triple c.args.parent
    (take 9 (drop (9 * c.args.place) c.args.rows.now))
    c.rewrite_row.new.row
row_rewritten c = rw add-sub_cancel_left at c.rewrite_row.ensures

whole_row : (c : After-rewrite_row) → length c.rewrite_row.new.row ≡ 9
whole_row c =
    let place = c.args.place in
    let rows = c.args.rows.now in
    c.rewrite_row.auto.row ∙ rw add-sub_cancel_left (row_length 9 place rows (room_here place rows c.requires.worked.held))

put_back : (c : After-rewrite_row) → (let args = c.args in
    put_mid (9 * args.place) (9 * args.place + 9 - 9 * args.place) args.rows.now c.rewrite_row.new.row
    ≡ written_at (9 * args.place) c.rewrite_row.new.row args.rows.now)
put_back c =
    let args = c.args in
    put_written (9 * args.place) c.rewrite_row.new.row args.rows.now _ (whole_row c ∙ sym (add-sub_cancel_left (9 * args.place) 9))

pub returns-then-rows-from-eq0 : goal.returns-then-rows-from-eq0
returns-then-rows-from-eq0 c =
    let args = c.args in
    let rows = args.rows.now in
    let none = c.if-rows-from-eq0.true in record {
      row_reduced = stays_gone args.rule args.triple args.parent args.place rows c.requires.worked none;
      chained_2 = row_gone 16384 2048 9 args.place rows args.chains.now c.requires.chained c.requires.place_lt_most_terms rows
          (rw (terms_more 9 args.place rows, gone_term args.rule args.triple args.parent args.place rows c.requires.worked none));
    }

pub settle_row-requires : goal.settle_row-requires
settle_row-requires c =
    let args = c.args in
    let rows = args.rows.now in
    let worked = c.requires.worked in
    let some = c.if-rows-from-eq0.false in
    let row = c.rewrite_row.new.row in
    rw (put_back (goal.at.settle_row-requires c).After-rewrite_row) (record {
      worked = between_worked args.rule args.triple args.parent args.place rows worked some row (whole_row (goal.at.settle_row-requires c).After-rewrite_row) (row_rewritten (goal.at.settle_row-requires c).After-rewrite_row);
      chained = rw (between_terms args.rule args.triple args.parent args.place rows worked some row (whole_row (goal.at.settle_row-requires c).After-rewrite_row) (row_rewritten (goal.at.settle_row-requires c).After-rewrite_row)) c.requires.chained;
      nonzero = between_there args.rule args.triple args.parent args.place rows worked some row (whole_row (goal.at.settle_row-requires c).After-rewrite_row) (row_rewritten (goal.at.settle_row-requires c).After-rewrite_row);
      place_lt_most_terms = c.requires.place_lt_most_terms;
    })

pub returns : goal.returns
returns c =
    let args = c.args in
    record {
      row_reduced = then_settled args.rule args.triple args.parent args.place args.rows.now c.requires.worked c.if-rows-from-eq0.false
          c.rewrite_row.new.row (whole_row (goal.at.returns c).After-rewrite_row) (row_rewritten (goal.at.returns c).After-rewrite_row) c.settle_row.new.rows _
          (rw (put_back (goal.at.returns c).After-rewrite_row) at c.settle_row.ensures.row_settled);
      chained_2 = c.settle_row.ensures.chained_2;
    }
