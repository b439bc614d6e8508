-- The text is malformed, or its rows stand in front and their table is laid out.
use mathlib.Core.Path.{sym}
use Prim.Native.Nat.{◌*◌, ◌≤◌}
use native.Mathlib.Omega.{arith}
use lib.ListN.{length}
use lib.Seq.{length-take-le}
use Rattle.refusal.proofs.Told.{handed_on}
use Rattle.tree_text.proofs.TreeLaid.{modes_front, tree_laid}
use Rattle.tree_text.proofs.trees.read_tree.Goals as goal
use Rattle.tree_text.proofs.trees.read_tree.Goals.{In_ok-count}

-- The rows that were read are within what is lent.
room : (c : In_ok-count) → 4 * c.in_ok-count.count ≤ length c.read_nodes.new.rows
room c = omega (arith, c.in_ok-count.ensures.few)

pub slice_bounds-lay_front-end : goal.slice_bounds-lay_front-end
slice_bounds-lay_front-end c = sym (length-take-le _ _ (room (goal.at.slice_bounds-lay_front-end c).In_ok-count))

pub lay_front-requires : goal.lay_front-requires
lay_front-requires c =
    let read = c.read_nodes in
    let few = c.in_ok-count.ensures.few in
    omega (arith, few, modes_front 256 c.in_ok-count.count read.new.rows few (omega arith))

pub returns-in_err-count : goal.returns-in_err-count
returns-in_err-count c = rw (handed_on c.from_residual.ensures) c.in_err-count.ensures

pub returns : goal.returns
returns c = tree_laid _ c.in_ok-count.ensures (omega arith) c.lay_front.ensures
