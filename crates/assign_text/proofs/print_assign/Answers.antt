-- The text is malformed, or its rows and its table stand in front: either way it is printed as the definitions print it.
use mathlib.Core.Path.{refl, sym}
use Prim.Native.Nat.{◌*◌, ◌≤◌}
use native.Mathlib.Omega.{arith}
use lib.ListN.{length}
use lib.Seq.{length-take-le}
use Rattle.terms_text.specs.Jobs.{requested}
use Rattle.tree_text.proofs.TreeLaid.{rows_fit}
use Rattle.assign_text.proofs.AssignmentPrinted.{assign_malformed, assign_read}
use Rattle.assign_text.proofs.print_assign.Goals as goal
use Rattle.assign_text.proofs.print_assign.Goals.{In-Ok}

-- The rows of the nodes, and their table, are within what is lent.
rows_room : (c : In-Ok) → 4 * c.in-Ok.modes ≤ length c.read_tree.new.rows
rows_room c = omega (arith, c.in-Ok.ensures.few)

table_room : (c : In-Ok) → 3 * c.in-Ok.modes ≤ length c.read_tree.new.table
table_room c = omega (arith, c.in-Ok.ensures.few)

pub slice_bounds-put_terms-end : goal.slice_bounds-put_terms-end
slice_bounds-put_terms-end c = omega (arith, rows_room (goal.at.slice_bounds-put_terms-end c).In-Ok)

pub slice_bounds-put_terms-end-in-Ok : goal.slice_bounds-put_terms-end-in-Ok
slice_bounds-put_terms-end-in-Ok c = sym (length-take-le _ _ (rows_room (goal.at.slice_bounds-put_terms-end-in-Ok c).In-Ok))

pub slice_bounds-put_terms-end-in-Ok-2 : goal.slice_bounds-put_terms-end-in-Ok-2
slice_bounds-put_terms-end-in-Ok-2 c = sym (length-take-le _ _ (table_room (goal.at.slice_bounds-put_terms-end-in-Ok-2 c).In-Ok))

pub put_terms-requires : goal.put_terms-requires
put_terms-requires c =
    let read = c.read_tree in
    let few = c.in-Ok.ensures.few in
    let size = length-take-le (3 * c.in-Ok.modes) read.new.table (table_room (goal.at.put_terms-requires c).In-Ok) in
    (rows_fit 256 c.in-Ok.modes read.new.rows few (omega arith), omega (arith, size, few))

pub returns-in-Err : goal.returns-in-Err
returns-in-Err c =
    let args = c.args in
    rw (assign_malformed args.tree.now args.name.now (requested args.asks.now) _ c.in-Err.ensures) c.put_refusal.ensures

pub returns-in-Ok : goal.returns-in-Ok
returns-in-Ok c =
    let args = c.args in
    rw (assign_read args.tree.now args.name.now (requested args.asks.now) c.in-Ok.ensures _ _ refl c.heuristic_of-heuristic.ensures) at
    c.put_terms.ensures
