-- What is asked of the given tree in a round.
use Rattle.std.specs.Prelude.{Bool, ℕ}
use Rattle.lists.specs.Members.{alike}
use Rattle.slots.specs.declared.restrictions.TreeRestrictions.{TreeRestrictions}
use Rattle.slots.specs.Slots.{slots}

-- The two nodes' slots are the same.
abbrev pub alike_in : TreeRestrictions → ℕ → ℕ → Bool
alike_in given node other =
    alike (slots given.modes given.tree.now given.assigned.now node) (slots given.modes given.tree.now given.assigned.now other)
