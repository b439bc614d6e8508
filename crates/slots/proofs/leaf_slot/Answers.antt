-- The test of the mode decides.
use mathlib.Core.Path.{sym}
use native.Mathlib.Omega.{arith}
use borrow.Author.Tests.{lt-ltb}
use Rattle.slots.specs.Slots.{leaf_slot, stands_as}
use Rattle.slots.proofs.SlotNumbers.{leaf_stands}
use Rattle.slots.proofs.leaf_slot.Goals as goal

pub returns-then-mode-modes : goal.returns-then-mode-modes
unfolding leaf_slot stands_as
returns-then-mode-modes c = (rw (lt-ltb _ _ c.if-mode-modes.true), omega arith)

pub returns : goal.returns
returns c =
    (sym (leaf_stands c.args.modes c.args.mode c.args.parity c.if-mode-modes.false c.requires.1), omega arith)
