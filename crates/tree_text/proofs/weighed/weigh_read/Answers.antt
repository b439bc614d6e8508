-- The terms' text is malformed, or its numbers stand in front.
use mathlib.Core.Path.{sym, ◌∙◌}
use Prim.Native.Nat.{◌*◌, ◌≤◌}
use native.Mathlib.Omega.{arith}
use lib.ListN.{length}
use lib.Seq.{length-take-le}
use Rattle.refusal.proofs.Told.{handed_on}
use Rattle.tree_text.proofs.AnswersPrinted.{weighed_given, weighed_malformed}
use Rattle.tree_text.proofs.weighed.weigh_read.Goals as goal
use Rattle.tree_text.proofs.weighed.weigh_read.Goals.{In_ok-given}

-- The numbers of the terms are within the room.
room : (c : In_ok-given) → 8 * c.in_ok-given.given.count ≤ length c.read_input.new.numbers
room c = omega (arith, c.in_ok-given.ensures.few)

pub slice_bounds-tree_weight-end : goal.slice_bounds-tree_weight-end
slice_bounds-tree_weight-end c = sym (length-take-le _ _ (room (goal.at.slice_bounds-tree_weight-end c).In_ok-given))

pub returns-in_err-given : goal.returns-in_err-given
returns-in_err-given c = handed_on c.from_residual.ensures ∙ weighed_malformed c.args.table.now _ _ c.in_err-given.ensures

pub returns : goal.returns
returns c = c.tree_weight.ensures.answer ∙ weighed_given c.args.table.now _ _ _ c.in_ok-given.ensures.says
