-- The labels in front are the nodes met so far; those passed have their rows, and at the end they are all.
use mathlib.Core.Path.{◌≡◌}
use Prim.Native.Nat.{◌≤◌, ◌+◌, ◌*◌}
use lib.ListN.{length, take}
use Rattle.merging.specs.code.Recorded.{recorded}
use Rattle.flatpack.proofs.Walking.{Walking}
use Rattle.flatpack.proofs.Merged.write_rows.Given as goal

abbrev pub invariant-loop-head : goal.invariant-loop-head
invariant-loop-head l = (length l.labels ≡ 769) × (l.tail ≤ 3 * l.head + 1) × Walking l.self.modes (recorded l.self.merges.now l.self.modes) l.initial.rows l.rows (take l.tail l.labels) l.head
