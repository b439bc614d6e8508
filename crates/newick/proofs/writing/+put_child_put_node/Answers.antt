-- A child is a leaf, nothing where no height is left, or a node; a node is written part by part, each behind what stands.
use mathlib.Core.List.{List}
use Prim.Native.Nat.{ℕ, suc, ◌+◌, ◌<◌, ◌≤◌}
use native.Mathlib.Omega.{arith}
use lib.ListN.{length}
use Rattle.lists.proofs.Behind.{set_written}
use Rattle.tree.specs.declared.table.TreeTable.{TreeTable}
use Rattle.newick.specs.Grammar.{spelled}
use Rattle.newick.specs.Writing.{shape_under}
use Rattle.newick.proofs.ShapeText.{shape_end, shape_none}
use Rattle.newick.proofs.ShapeWrote.{NodeAt, NodeLeft, from_second, from_third, from_name, node_starts, mark_room, child_room, child_wrote, name_room, node_ends}
use Rattle.newick.proofs.writing.+put_child_put_node.Goals as goal
use Rattle.newick.proofs.writing.+put_child_put_node.Goals.{put_node-After-put_child-x, put_node-After-put_child-y, put_node-After-put_child-z}

pub put_child-put_end-requires-clause-code_in_bounds : goal.put_child-put_end-requires-clause-code_in_bounds
put_child-put_end-requires-clause-code_in_bounds t c =
    rw (shape_end c.args.table.now.modes c.args.table.now.tree.now c.args.height c.args.code c.if-table-code.true) at c.requires

pub put_child-returns-then-table-code : goal.put_child-returns-then-table-code
put_child-returns-then-table-code t c =
    let e = shape_end c.args.table.now.modes c.args.table.now.tree.now c.args.height c.args.code c.if-table-code.true in
    record { value = rw e c.put_end.ensures.value; text_after = rw e c.put_end.ensures.text_after }

pub put_child-bounds-text-at : goal.put_child-bounds-text-at
put_child-bounds-text-at t c =
    let room = rw (shape_none c.args.table.now.modes c.args.table.now.tree.now c.args.height c.args.code c.if-height-eq0.true c.if-table-code.false) at c.requires in
    omega (arith, room)

pub put_child-returns-then-height-eq0 : goal.put_child-returns-then-height-eq0
put_child-returns-then-height-eq0 t c =
    let low = shape_none c.args.table.now.modes c.args.table.now.tree.now c.args.height c.args.code c.if-height-eq0.true c.if-table-code.false in
    let room = rw low at c.requires in
    record {
      value = rw low (omega arith);
      text_after = rw low (set_written c.args.text.now c.args.at 101 (omega (arith, room)));
    }

-- The node that is to be written.
abbrev node_of : (table : TreeTable) (height node at : ℕ) (text : List ℕ) → node < table.modes
    → at + length (spelled (shape_under table.modes table.tree.now (suc height) node)) ≤ length text → NodeAt
node_of table height node at text below room =
    record { modes = table.modes; table = table.tree.now; height = height; node = node; at = at; text = text; below = below; room = room }

-- What is left behind each child.
module _ {t : ℕ} where
  first : (c : put_node-After-put_child-x t)
      → let n = node_of c.args.table.now c.args.height c.args.node c.args.at c.args.text.now c.requires.below c.requires.room in
      NodeLeft n (from_second n) c.put_child-x.new.text c.put_child-x.result
  first c =
      let n = node_of c.args.table.now c.args.height c.args.node c.args.at c.args.text.now c.requires.below c.requires.room in
      child_wrote n 40 0 (from_second n) c.child-first.ensures (node_starts n) c.put_child-x.ensures.value c.put_child-x.ensures.text_after

  second : (c : put_node-After-put_child-y t)
      → let n = node_of c.args.table.now c.args.height c.args.node c.args.at c.args.text.now c.requires.below c.requires.room in
      NodeLeft n (from_second n) c.put_child-x.new.text c.put_child-x.result
      → NodeLeft n (from_third n) c.put_child-y.new.text c.put_child-y.result
  second c x =
      let n = node_of c.args.table.now c.args.height c.args.node c.args.at c.args.text.now c.requires.below c.requires.room in
      child_wrote n 44 1 (from_third n) c.child-second.ensures x c.put_child-y.ensures.value c.put_child-y.ensures.text_after

  third : (c : put_node-After-put_child-z t)
      → let n = node_of c.args.table.now c.args.height c.args.node c.args.at c.args.text.now c.requires.below c.requires.room in
      NodeLeft n (from_third n) c.put_child-y.new.text c.put_child-y.result
      → NodeLeft n (from_name n) c.put_child-z.new.text c.put_child-z.result
  third c y =
      let n = node_of c.args.table.now c.args.height c.args.node c.args.at c.args.text.now c.requires.below c.requires.room in
      child_wrote n 44 2 (from_name n) c.child-third.ensures y c.put_child-z.ensures.value c.put_child-z.ensures.text_after

pub put_node-bounds-text-at : goal.put_node-bounds-text-at
put_node-bounds-text-at t c =
    let n = node_of c.args.table.now c.args.height c.args.node c.args.at c.args.text.now c.requires.below c.requires.room in
    (mark_room n (node_starts n)).0

pub put_node-put_child-x-requires : goal.put_node-put_child-x-requires
put_node-put_child-x-requires t c =
    let n = node_of c.args.table.now c.args.height c.args.node c.args.at c.args.text.now c.requires.below c.requires.room in
    (omega (arith, c.decreases), child_room n 40 0 (from_second n) c.child-first.ensures (node_starts n))

pub put_node-bounds-text-x : goal.put_node-bounds-text-x
put_node-bounds-text-x t c =
    let here = goal.at.put_node-bounds-text-x t c in
    let n = node_of c.args.table.now c.args.height c.args.node c.args.at c.args.text.now c.requires.below c.requires.room in
    let x = first here.After-put_child-x in
    (mark_room n x).0

pub put_node-overflow_add-x : goal.put_node-overflow_add-x
put_node-overflow_add-x t c =
    let here = goal.at.put_node-overflow_add-x t c in
    let n = node_of c.args.table.now c.args.height c.args.node c.args.at c.args.text.now c.requires.below c.requires.room in
    let x = first here.After-put_child-x in
    omega (arith, (mark_room n x).1)

pub put_node-put_child-y-requires : goal.put_node-put_child-y-requires
put_node-put_child-y-requires t c =
    let here = goal.at.put_node-put_child-y-requires t c in
    let n = node_of c.args.table.now c.args.height c.args.node c.args.at c.args.text.now c.requires.below c.requires.room in
    let x = first here.After-put_child-x in
    (omega (arith, c.decreases), child_room n 44 1 (from_third n) c.child-second.ensures x)

pub put_node-bounds-text-y : goal.put_node-bounds-text-y
put_node-bounds-text-y t c =
    let here = goal.at.put_node-bounds-text-y t c in
    let n = node_of c.args.table.now c.args.height c.args.node c.args.at c.args.text.now c.requires.below c.requires.room in
    let y = second here.After-put_child-y (first here.After-put_child-x) in
    (mark_room n y).0

pub put_node-overflow_add-y : goal.put_node-overflow_add-y
put_node-overflow_add-y t c =
    let here = goal.at.put_node-overflow_add-y t c in
    let n = node_of c.args.table.now c.args.height c.args.node c.args.at c.args.text.now c.requires.below c.requires.room in
    let y = second here.After-put_child-y (first here.After-put_child-x) in
    omega (arith, (mark_room n y).1)

pub put_node-put_child-z-requires : goal.put_node-put_child-z-requires
put_node-put_child-z-requires t c =
    let here = goal.at.put_node-put_child-z-requires t c in
    let n = node_of c.args.table.now c.args.height c.args.node c.args.at c.args.text.now c.requires.below c.requires.room in
    let y = second here.After-put_child-y (first here.After-put_child-x) in
    (omega (arith, c.decreases), child_room n 44 2 (from_name n) c.child-third.ensures y)

pub put_node-bounds-text-z : goal.put_node-bounds-text-z
put_node-bounds-text-z t c =
    let here = goal.at.put_node-bounds-text-z t c in
    let n = node_of c.args.table.now c.args.height c.args.node c.args.at c.args.text.now c.requires.below c.requires.room in
    let z = third here.After-put_child-z (second here.After-put_child-y (first here.After-put_child-x)) in
    (mark_room n z).0

pub put_node-overflow_add-z : goal.put_node-overflow_add-z
put_node-overflow_add-z t c =
    let here = goal.at.put_node-overflow_add-z t c in
    let n = node_of c.args.table.now c.args.height c.args.node c.args.at c.args.text.now c.requires.below c.requires.room in
    let z = third here.After-put_child-z (second here.After-put_child-y (first here.After-put_child-x)) in
    omega (arith, (mark_room n z).1)

pub put_node-put_name-requires : goal.put_node-put_name-requires
put_node-put_name-requires t c =
    let here = goal.at.put_node-put_name-requires t c in
    let n = node_of c.args.table.now c.args.height c.args.node c.args.at c.args.text.now c.requires.below c.requires.room in
    let z = third here.After-put_child-z (second here.After-put_child-y (first here.After-put_child-x)) in
    name_room n z

pub put_node-returns : goal.put_node-returns
put_node-returns t c =
    let here = goal.at.put_node-returns t c in
    let n = node_of c.args.table.now c.args.height c.args.node c.args.at c.args.text.now c.requires.below c.requires.room in
    let z = third here.After-put_child-z (second here.After-put_child-y (first here.After-put_child-x)) in
    let all = node_ends n z c.put_name.ensures.value c.put_name.ensures.text_after in
    record { value = all.0; text_after = all.1 }
