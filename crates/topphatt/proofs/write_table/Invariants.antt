-- The codes written so far.
use Rattle.std.proofs.Common.{map, ◌≡◌, ◌*◌, take}
use Rattle.lists.specs.Written.{written_at}
use Rattle.entities.specs.Codes.{child_code}
use Rattle.slots.specs.Slots.{slot_of, stands_as}
use Rattle.topphatt.proofs.write_table.Given as goal

abbrev pub invariant-loop-at : goal.invariant-loop-at
invariant-loop-at l = l.table ≡ written_at 0 (map (λ given. child_code l.restrictions.modes (2 * l.restrictions.modes) (stands_as l.restrictions.modes (slot_of l.restrictions.modes l.restrictions.assigned.now given))) (take l.at l.restrictions.tree.now)) l.initial.table
