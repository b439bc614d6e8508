-- A row that is dropped or merged is zeros, and on no chain; one that stays is left as it is and put on its mark's chain.
use mathlib.Core.Path.{◌∙◌, sym}
use Prim.Native.Nat.{◌*◌, ◌≤◌}
use native.Mathlib.Omega.{arith}
use lib.ListN.{take, drop}
use Rattle.terms.specs.Rows.{term, terms_of}
use Rattle.reduction.specs.code.Marks.{first_like}
use Rattle.reduction.proofs.RowReduced.{room_here, cleared_terms, none_like, row_drops, row_stays, row_merges, merged_terms}
use Rattle.reduction.proofs.ChainedRows.{row_chained, row_gone}
use Rattle.reduction.proofs.settle_row.Goals as goal

pub returns-then-drops_at : goal.returns-then-drops_at
returns-then-drops_at c =
    let place = c.args.place in
    let rows = c.args.rows.now in
    let held = c.requires.worked.held in
    rw (c.from.ensures, c.clear_row.ensures.value, c.clear_row.ensures.rows_after) (record {
      row_settled = row_drops place rows held c.args.rule c.args.parent (sym c.drops_at.ensures ∙ c.if-drops_at.true);
      chained_2 = row_gone 16384 2048 9 place rows c.args.chains.now c.requires.chained c.requires.place_lt_most_terms _ (cleared_terms place rows held);
    })

pub returns-then-first-place : goal.returns-then-first-place
returns-then-first-place c =
    let place = c.args.place in
    let rows = c.args.rows.now in
    let held = c.requires.worked.held in
    let some = c.requires.nonzero in
    let before = c.if-first-place.true in
    let is_first = c.first_like-first.ensures in
    rw c.merge_row.ensures (record {
      row_settled = row_merges place rows held _ before some is_first c.args.rule c.args.parent
          (sym c.drops_at.ensures ∙ c.if-drops_at.false);
      chained_2 = row_gone 16384 2048 9 place rows c.args.chains.now c.requires.chained c.requires.place_lt_most_terms _
          (merged_terms place rows held _ before some is_first);
    })

pub returns : goal.returns
returns c =
    let place = c.args.place in
    let rows = c.args.rows.now in
    let held = c.requires.worked.held in
    let none : place ≤ first_like (term (take 9 (drop (9 * place) rows))) (terms_of 9 place rows) =
    omega (arith, c.first_like-first.ensures, c.if-first-place.false) in
    record {
      row_settled = row_stays place rows held c.args.rule c.args.parent
          (sym c.drops_at.ensures ∙ c.if-drops_at.false) none;
      chained_2 = rw (c.set_mark.ensures, c.term_at.ensures)
          (row_chained 16384 2048 9 place rows c.args.chains.now c.requires.chained c.requires.place_lt_most_terms (omega arith) c.requires.nonzero
          (none_like place rows held none));
    }
