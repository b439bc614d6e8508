-- The labels in front are the nodes met so far; those passed have their rows, and at the end they are all.
use mathlib.Core.Path.{refl, ◌∙◌}
use Prim.Native.Nat.{◌≤◌, ◌<◌}
use native.Mathlib.Omega.{arith}
use lib.ListN.{length, get_or}
use lib.Seq.{get_or-take, length-take-le}
use Rattle.merging.specs.code.Recorded.{recorded}
use Rattle.merging.proofs.Recording.{length_recorded}
use Rattle.flatpack.proofs.Walking.{walking_starts, walking_ends, waiting, next_node, walking_on}
use Rattle.flatpack.proofs.Merged.write_rows.Goals as goal
use Rattle.flatpack.proofs.Merged.write_rows.Goals.{In-loop-head}

-- In the loop a node waits.
next : (c : In-loop-head)
    → (c.loop-head.head < c.loop-head.tail)
    × (get_or c.loop-head.labels c.loop-head.head 0 < c.args.self.now.modes)
next c =
    let loop = c.loop-head in
    let merged = c.args.self.now in
    let all = length_recorded merged.merges.now merged.modes in
    let room : loop.tail ≤ length loop.labels = omega arith in
    let some = waiting _ _ _ _ _ _ loop.invariant.2 c.loop-head-test.true c.requires.lawful_history all (omega arith) in
    let ahead : loop.head < loop.tail = omega (arith, some, length-take-le loop.tail loop.labels room) in
    let node = next_node _ _ _ _ _ _ loop.invariant.2 c.loop-head-test.true c.requires.lawful_history all (omega arith) in
    (ahead, rw (get_or-take loop.tail loop.labels loop.head 0 ahead) at node)

pub loop-head-init : goal.loop-head-init
loop-head-init c =
    let merged = c.args.self.now in
    (refl, omega arith, walking_starts merged.modes (recorded merged.merges.now merged.modes) c.args.rows.now (omega arith))

pub children-codes-requires : goal.children-codes-requires
children-codes-requires c = (next (goal.at.children-codes-requires c).In-loop-head).1

pub loop-head-preserved : goal.loop-head-preserved
loop-head-preserved c =
    let queue = c.queue-tail in
    let loop = c.loop-head in
    let merged = c.args.self.now in
    let ahead = (next (goal.at.loop-head-preserved c).In-loop-head).0 in (
      queue.auto.labels ∙ loop.invariant.0,
      omega (arith, queue.ensures.1, loop.invariant.1),
      walking_on _ _ _ _ _ _ loop.invariant.2 c.loop-head-test.true c.requires.lawful_history
          (length_recorded merged.merges.now merged.modes) (omega arith)
          _ _ _ _ (get_or-take loop.tail loop.labels loop.head 0 ahead) c.children-codes.ensures c.put_row.ensures queue.ensures.2,
    )

pub returns : goal.returns
returns c = walking_ends _ _ _ _ _ _ c.loop-head.invariant.2 (omega arith)
