-- The codes written so far.
use Rattle.std.proofs.Common.{◌∙◌, ap, ℕ, ◌*◌, arith, get_or, set, take_all}
use Rattle.lists.proofs.Behind.{mapped_start, mapped_next}
use Rattle.entities.specs.Codes.{child_code}
use Rattle.slots.specs.Slots.{slot_of, stands_as}
use Rattle.topphatt.specs.Answer.{answer_table}
use Rattle.topphatt.proofs.write_table.Goals as goal

pub loop-at-init : goal.loop-at-init
loop-at-init c =
    let args = c.args in
    mapped_start (λ given. child_code args.restrictions.now.modes (2 * args.restrictions.now.modes) (stands_as args.restrictions.now.modes (slot_of args.restrictions.now.modes args.restrictions.now.assigned.now given))) args.restrictions.now.tree.now args.table.now

pub loop-at-preserved : goal.loop-at-preserved
loop-at-preserved c =
    let args = c.args in
    let rule : ℕ → ℕ = λ given. child_code args.restrictions.now.modes (2 * args.restrictions.now.modes) (stands_as args.restrictions.now.modes (slot_of args.restrictions.now.modes args.restrictions.now.assigned.now given)) in
    rw c.answer_code.ensures (ap (λ t. set t c.loop-at.at (rule (get_or args.restrictions.now.tree.now c.loop-at.at 0))) c.loop-at.invariant ∙ mapped_next rule args.restrictions.now.tree.now args.table.now c.loop-at.at 0 (omega arith) (omega arith))

pub returns : goal.returns
unfolding answer_table
returns c =
    let args = c.args in
    c.loop-at.invariant ∙ rw (take_all c.loop-at.at args.restrictions.now.tree.now (omega arith))
