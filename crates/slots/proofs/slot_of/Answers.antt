-- A child, empty, or a leaf, by the code.
use mathlib.Core.Path.{◌∙◌, ap, sym}
use Prim.Native.Nat.{◌-◌, ◌%◌}
use native.Mathlib.Omega.{arith}
use Rattle.slots.specs.Slots.{leaf_slot, stands_as}
use Rattle.slots.proofs.SlotCases.{slot_child, slot_empty}
use Rattle.slots.proofs.SlotNumbers.{slot_read}
use Rattle.slots.proofs.slot_of.Goals as goal

pub returns-then-code-modes : goal.returns-then-code-modes
unfolding stands_as
returns-then-code-modes c = (rw (slot_child _ _ _ c.if-code-modes.true) c.parent_number.ensures, omega arith)

pub returns-then-modes-code : goal.returns-then-modes-code
unfolding stands_as
returns-then-modes-code c = (rw (slot_empty _ _ _ c.if-modes-code.true), omega arith)

pub returns : goal.returns
returns c =
    let args = c.args in
    let read = slot_read args.modes args.assigned.now args.code (omega arith) (omega arith) (omega arith) in
    (c.leaf_slot.ensures.0 ∙ ap (λ v. stands_as args.modes (leaf_slot args.modes v ((args.code - args.modes) % 2))) c.from.ensures ∙ ap (stands_as args.modes) (sym read), c.leaf_slot.ensures.1)
