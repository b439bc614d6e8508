-- The tables, the reduced rows and the notes make the state of the longer history.
use native.Mathlib.Omega.{arith}
use lib.Dec.{lit≤}
use Rattle.merging.proofs.RowsHeld.{rows_worked}
use Rattle.merging.proofs.StateMerged.{weight_bound, dropped_bound, in_room, end_low, x_below, y_below, z_below, merged_went, same_run}
use Rattle.merging.proofs.run.Run.merged.Goals as goal

pub reduce_hamiltonian-dropped-requires : goal.reduce_hamiltonian-dropped-requires
reduce_hamiltonian-dropped-requires c =
    let holds = c.requires.1.holds in
    record {
      worked = rows_worked 769 256 c.requires.0 c.args.rows.now c.args.self holds;
      count_le_most_terms = omega (arith, holds.light, holds.count_is);
    }

pub overflow_add-sum : goal.overflow_add-sum
overflow_add-sum c =
    let ready = c.requires.1 in
    let light = weight_bound 769 256 c.requires.0 _ _ _ _ (lit≤ tt) ready in
    omega (arith, ready.holds.bounded, ready.holds.light, ready.holds.inside, ready.holds.few)

pub entities_merged-requires : goal.entities_merged-requires
entities_merged-requires c =
    let ready = c.requires.1 in
    let job = c.requires.0 in
    let rows = c.args.rows.now in
    let run = c.args.self in
    let triple = c.args.triple in
    let weight = c.args.weight in
    let in_table = in_room 769 256 job rows run triple weight (lit≤ tt) ready in
    let x = in_table triple.x (x_below 769 256 job rows run triple weight (lit≤ tt) ready) in
    let y = in_table triple.y (y_below 769 256 job rows run triple weight (lit≤ tt) ready) in
    let z_is = z_below 769 256 job rows run triple weight (lit≤ tt) ready in
    let z = in_table triple.z z_is in
    let end = end_low 769 256 job rows run triple weight (lit≤ tt) ready triple.z z_is in
    let few = ready.holds.few in
    let same = ready.holds.modes_are in
    record {
      modes_le_most_modes = (omega arith, omega (arith, ready.left), x, y, z);
      z_bound = omega arith;
    }

pub overflow_cast-weight : goal.overflow_cast-weight
overflow_cast-weight c =
    let ready = c.requires.1 in
    let light = weight_bound 769 256 c.requires.0 _ _ _ _ (lit≤ tt) ready in
    omega (arith, ready.holds.light)

pub overflow_cast-dropped : goal.overflow_cast-dropped
overflow_cast-dropped c =
    let ready = c.requires.1 in
    let few = dropped_bound 769 256 c.requires.0 _ _ _ _ (lit≤ tt) ready _ _
    (rw c.parent_number-parent.ensures at c.reduce_hamiltonian-dropped.ensures) in
    omega (arith, ready.holds.light)

pub returns : goal.returns
returns c job ready =
    let args = c.args in
    let merged = c.entities_merged.ensures in
    let noted = c.noted-next.ensures in
    let reduced = c.reduce_hamiltonian-dropped.ensures in
    let parent = c.parent_number-parent.ensures in
    rw (same_run args.triple args.weight _ args.self _ _ merged noted)
    (merged_went 769 256 job args.rows.now args.self args.triple args.weight (lit≤ tt) ready _ _ (rw parent at reduced))
