-- The text is malformed, or its table stands in front.
use mathlib.Core.Path.{sym, ◌∙◌}
use Prim.Native.Nat.{◌*◌, ◌≤◌}
use native.Mathlib.Omega.{arith}
use lib.ListN.{length}
use lib.Seq.{length-take-le}
use Rattle.refusal.proofs.Told.{handed_on}
use Rattle.tree_text.proofs.AnswersPrinted.{weigh_malformed, weigh_read}
use Rattle.tree_text.proofs.weighed.weigh_said.Goals as goal
use Rattle.tree_text.proofs.weighed.weigh_said.Goals.{In_ok-modes}

-- The table of the nodes is within what is lent.
room : (c : In_ok-modes) → 3 * c.in_ok-modes.modes ≤ length c.read_tree.new.table
room c = omega (arith, c.in_ok-modes.ensures.few)

pub slice_bounds-weigh_terms-end : goal.slice_bounds-weigh_terms-end
slice_bounds-weigh_terms-end c = sym (length-take-le _ _ (room (goal.at.slice_bounds-weigh_terms-end c).In_ok-modes))

pub returns-in_err-modes : goal.returns-in_err-modes
returns-in_err-modes c = handed_on c.from_residual.ensures ∙ weigh_malformed c.args.tree.now _ c.in_err-modes.ensures _

pub returns : goal.returns
returns c = c.weigh_terms.ensures ∙ weigh_read c.args.tree.now c.in_ok-modes.ensures _
