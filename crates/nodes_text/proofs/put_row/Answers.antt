-- The row read is written over its place.
use Prim.Native.Nat.{◌+◌, ◌-◌, ◌*◌}
use native.Mathlib.Omega.{arith}
use Rattle.nodes_text.proofs.NodesAhead.{node_put}
use Rattle.nodes_text.proofs.put_row.Goals as goal

pub returns : goal.returns
returns c =
    let count = c.args.count in
    node_put c.args.line.now (4 * count) (4 * count + 4 - 4 * count) c.args.rows.now _ _ (omega arith) c.read_node.ensures
