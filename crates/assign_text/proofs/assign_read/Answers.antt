-- The terms' text is malformed, or its numbers stand in front.
use Rattle.terms.specs.Rules.{rule_number}
use mathlib.Core.Path.{sym, ap, ◌∙◌}
use Prim.Native.Nat.{◌*◌, ◌≤◌}
use native.Mathlib.Omega.{arith}
use lib.ListN.{length}
use lib.Seq.{length-take-le}
use Rattle.refusal.proofs.Told.{handed_on}
use Rattle.assign_text.specs.code.Finding.{found_text, meant_text}
use Rattle.assign_text.proofs.AssignmentPrinted.{terms_refused}
use Rattle.assign_text.proofs.assign_read.Goals as goal
use Rattle.assign_text.proofs.assign_read.Goals.{In_ok-given}

-- The numbers of the terms are within the room.
room : (c : In_ok-given) → 8 * c.in_ok-given.given.count ≤ length c.read_input.new.numbers
room c = omega (arith, c.in_ok-given.ensures.few)

pub slice_bounds-assign_given-end : goal.slice_bounds-assign_given-end
slice_bounds-assign_given-end c = sym (length-take-le _ _ (room (goal.at.slice_bounds-assign_given-end c).In_ok-given))

pub returns-in_err-given : goal.returns-in_err-given
unfolding found_text
returns-in_err-given c =
    let args = c.args in
    rw (handed_on c.from_residual.ensures)
    (terms_refused (rule_number args.asks.now.rule) args.heuristic args.rows.now args.table.now _ _ c.in_err-given.ensures)

pub returns : goal.returns
returns c =
    let args = c.args in
    c.assign_given.ensures
    ∙ ap (meant_text args.rows.now args.table.now (rule_number args.asks.now.rule) args.heuristic) (sym c.in_ok-given.ensures.says)
