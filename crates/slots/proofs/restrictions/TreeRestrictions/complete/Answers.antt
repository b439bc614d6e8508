-- X, Y and Z in turn.
use Rattle.std.proofs.Common.{◌≡◌, ◌&&◌, ◌∙◌}
use Rattle.std.proofs.Math.Bool.{and_assoc}
use Rattle.slots.specs.Slots.{slot, is_fixed}
use Rattle.slots.specs.Nodes.{complete}
use Rattle.slots.proofs.SlotNumbers.{edge_number_unfixed, edge_number_fixed}
use Rattle.slots.proofs.restrictions.TreeRestrictions.complete.Goals as goal
use Rattle.slots.proofs.restrictions.TreeRestrictions.complete.Goals.{Joined-is_fixed, then-is_fixed, else-is_fixed}

x_and_y : (c : Joined-is_fixed)
    → let args = c.args in
    c.if-is_fixed.value ≡ (is_fixed (slot args.self.now.modes args.self.now.tree.now args.self.now.assigned.now args.node 0) && is_fixed (slot args.self.now.modes args.self.now.tree.now args.self.now.assigned.now args.node 1))
x_and_y c =
    let are = c.slots-at.ensures in
    let x = c.is_fixed.ensures ∙ edge_number_fixed _ _ _ _ _ _ are.x_is in
    let y = edge_number_fixed _ _ _ _ _ _ are.y_is in
    elim c.if-is_fixed.branch [
      | then-is_fixed w ↦ rw (w.value-is, ← x, w.if-is_fixed.true) (w.is_fixed-then-is_fixed.ensures ∙ y)
      | else-is_fixed w ↦ rw (w.value-is, ← x, w.if-is_fixed.false)
    ]

pub returns-then-is_fixed-2 : goal.returns-then-is_fixed-2
unfolding complete
returns-then-is_fixed-2 c =
    let z = c.unfixed.ensures ∙ edge_number_unfixed _ _ _ _ _ _ c.slots-at.ensures.z_is in
    rw (← and_assoc, ← x_and_y (goal.at.returns-then-is_fixed-2 c).Joined-is_fixed, c.if-is_fixed-2.true, z)

pub returns-else-is_fixed-2 : goal.returns-else-is_fixed-2
unfolding complete
returns-else-is_fixed-2 c = rw (← and_assoc, ← x_and_y (goal.at.returns-else-is_fixed-2 c).Joined-is_fixed, c.if-is_fixed-2.false)
