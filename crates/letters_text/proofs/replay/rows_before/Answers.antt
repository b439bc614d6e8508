-- The rows before each step in turn: a merge takes them to those before the next.
use mathlib.Core.Path.{◌≡◌, ap, ◌∙◌}
use Prim.Native.Nat.{◌<◌}
use native.Mathlib.Omega.{arith}
use lib.ListN.{length}
use Rattle.entities.specs.Parents.{parent_number}
use Rattle.merging.specs.code.State.{history_of}
use Rattle.letters_text.proofs.RowsReplayed.{replay_starts, replay_goes, worked_replayed}
use Rattle.letters_text.proofs.replay.rows_before.Goals as goal

pub loop-at-init : goal.loop-at-init
loop-at-init c job own finished = replay_starts job (history_of c.args.run) _ finished.rows_are

pub parent_number-parent-requires : goal.parent_number-parent-requires
parent_number-parent-requires c =
    let holds = c.requires.1.1.0.holds in
    let modes = c.modes-modes.ensures _ _ holds in
    (omega (arith, holds.few, modes), omega (arith, holds.few, modes, c.requires.1.1.1))

pub merge_of-requires : goal.merge_of-requires
merge_of-requires c =
    let finished = c.requires.1.1.0 in
    (c.requires.0, (c.requires.1.0, (finished.holds, omega (arith, finished.all, c.requires.1.1.1))))

pub reduce_hamiltonian-requires : goal.reduce_hamiltonian-requires
reduce_hamiltonian-requires c =
    let job = c.requires.0 in
    let finished = c.requires.1.1.0 in
    let rows = c.loop-at.invariant job c.requires.1.0 finished in
    rw (c.count-count.ensures job _ finished.holds)
    (record { worked = worked_replayed job _ _ rows finished.holds.light; count_le_most_terms = finished.holds.light })

pub loop-at-preserved : goal.loop-at-preserved
loop-at-preserved c job own finished =
    let history = history_of c.args.run in
    let made : c.loop-at.at < length history = omega (arith, finished.all, c.requires.1.1.1, c.loop-at-test.true) in
    replay_goes job history c.loop-at.at _ _ _ _ _ _ made (c.rule_of-rule.ensures job own finished.holds) c.merge_of.ensures
    (c.parent_number-parent.ensures ∙ ap (λ n. parent_number n c.loop-at.at) (c.modes-modes.ensures job own finished.holds)) (c.loop-at.invariant job own finished)
    (rw (c.count-count.ensures job own finished.holds) at c.reduce_hamiltonian.ensures)

pub returns : goal.returns
returns c job own finished =
    let last : c.loop-at.at ≡ c.args.step = omega arith in
    rw last at (c.loop-at.invariant job own finished)
