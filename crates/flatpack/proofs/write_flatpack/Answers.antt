-- A finished run has all its merges written down, and its last parent's z-end is the absent child's.
use mathlib.Core.Path.{◌≡◌, ap}
use Prim.Native.Nat.{ℕ, ◌+◌, ◌*◌}
use native.Mathlib.Omega.{arith}
use lib.ListN.{length}
use Rattle.history.specs.Flatpack.{absent_leaf}
use Rattle.merging.specs.declared.run.Run.{Run}
use Rattle.merging.specs.code.Recorded.{recorded}
use Rattle.merging.specs.code.State.{history_of}
use Rattle.merging.proofs.Recording.{length_recorded}
use Rattle.flatpack.proofs.write_flatpack.Goals as goal

-- The merges written down are those of every step.
all_noted : (run : Run) (modes : ℕ) → run.modes ≡ modes → length (history_of run) ≡ modes
    → history_of run ≡ recorded run.merges run.modes
all_noted run modes same all =
    let made : run.step ≡ run.modes = omega (arith, length_recorded run.merges run.step) in
    ap (recorded run.merges) made

pub invariant_of-merged : goal.invariant_of-merged
unfolding absent_leaf
invariant_of-merged c =
    let run = c.args.run in
    let holds = c.requires.1.1.0 in
    let same = holds.modes_are in
    let merges = recorded run.merges run.modes in
    let noted : history_of run ≡ merges = all_noted run _ same c.requires.1.1.1 in
    let root : 2 * run.modes + length merges ≡ 3 * run.modes =
    omega (arith, length_recorded run.merges run.modes) in
    record {
      few = (omega (arith, holds.some), omega (arith, holds.few));
      end_is = rw root (rw (noted, ← same) at (holds.tied.ends_are (3 * run.modes) (omega arith)));
    }

pub write_rows-requires-clause-lawful_history : goal.write_rows-requires-clause-lawful_history
write_rows-requires-clause-lawful_history c =
    let holds = c.requires.1.1.0 in
    rw (all_noted c.args.run _ holds.modes_are c.requires.1.1.1, ← holds.modes_are) at holds.lawful

pub returns : goal.returns
returns c job own holds =
    let given = c.requires.1.1 in
    rw (← holds.modes_are, all_noted c.args.run _ given.0.modes_are given.1) c.write_rows.ensures
