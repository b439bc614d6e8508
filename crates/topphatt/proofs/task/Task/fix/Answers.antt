-- A leaf that isn't fixed stands within the table of pairs.
use mathlib.Core.Path.{◌≡◌, ◌∙◌, sym}
use mathlib.Core.Bool.{true}
use native.Mathlib.Omega.{arith}
use lib.ListN.{length-set}
use Rattle.slots.specs.Slots.{pair_of, slot, unfixed}
use Rattle.slots.proofs.SlotCases.{Without, edge_without}
use Rattle.slots.proofs.SlotNumbers.{edge_number_unfixed}
use Rattle.topphatt.proofs.FixedSteps.{fixed_not, fixed_set}
use Rattle.topphatt.proofs.task.Task.fix.Goals as goal
use Rattle.topphatt.proofs.task.Task.fix.Goals.{After-unfixed}

-- What the test says of the slot.
tested : (c : After-unfixed)
    → let args = c.args in
    c.unfixed.result ≡ unfixed (slot args.self.now.modes args.self.now.tree.now args.assigned.now args.node args.edge)
unfolding slot
tested c =
    let args = c.args in
    c.unfixed.ensures
    ∙ edge_number_unfixed args.self.now.modes args.self.now.tree.now args.assigned.now args.node args.edge _
    (rw (← c.child-code.ensures) c.slot_of.ensures.0)

-- A leaf that isn't fixed.
unfixed_leaf : (c : After-unfixed) → c.unfixed.result ≡ true
    → let args = c.args in
    Without args.self.now.modes args.assigned.now c.child-code.result
unfixed_leaf c e =
    let args = c.args in
    rw c.child-code.ensures
    (edge_without args.self.now.modes args.self.now.tree.now args.assigned.now args.node args.edge (sym (tested c) ∙ e))

pub returns-then-not-unfixed : goal.returns-then-not-unfixed
returns-then-not-unfixed c =
    let args = c.args in (
      c.requires.0,
      sym (fixed_not args.self.now.modes args.self.now.tree.now args.node args.edge args.number args.assigned.now (sym (tested (goal.at.returns-then-not-unfixed c).After-unfixed) ∙ c.if-not-unfixed.true)),
    )

pub overflow_sub-pair : goal.overflow_sub-pair
overflow_sub-pair c = let leaf = unfixed_leaf (goal.at.overflow_sub-pair c).After-unfixed c.if-not-unfixed.false in omega arith

pub bounds-assigned-pair : goal.bounds-assigned-pair
bounds-assigned-pair c = let leaf = unfixed_leaf (goal.at.bounds-assigned-pair c).After-unfixed c.if-not-unfixed.false in omega arith

pub returns : goal.returns
unfolding pair_of
returns c =
    let args = c.args in (
      simp length-set c.requires.0,
      rw c.child-code.ensures
          (sym (fixed_set args.self.now.modes args.self.now.tree.now args.node args.edge args.number args.assigned.now (sym (tested (goal.at.returns c).After-unfixed) ∙ c.if-not-unfixed.false))),
    )
