-- What the functions on slots and nodes promise whoever calls them.
use Rattle.std.specs.Prelude.{◌≡◌, List, ℕ, ◌+◌, ◌*◌, ◌≤◌, ◌<◌, length, get_or}
use Rattle.entities.specs.declared.Triple.{Triple}
use Rattle.slots.specs.Slots.{slot, stands_as}
use Rattle.slots.specs.Nodes.{distance}

-- The slots of a node by their numbers, and that each fits.
pub record SlotsAre (modes : ℕ) (table assigned : List ℕ) (node : ℕ) (r : Triple) : Type 0 where
  pub x_is : r.x ≡ stands_as modes (slot modes table assigned node 0)
  pub y_is : r.y ≡ stands_as modes (slot modes table assigned node 1)
  pub z_is : r.z ≡ stands_as modes (slot modes table assigned node 2)
  pub x_fits : r.x ≤ 3 * modes + 2
  pub y_fits : r.y ≤ 3 * modes + 2
  pub z_fits : r.z ≤ 3 * modes + 2

-- The distance of each node stands at the node.
pub record Distances (modes : ℕ) (table distances : List ℕ) : Type 0 where
  pub room : modes ≤ length distances
  pub each : (node : ℕ) → node < modes → get_or distances node 0 ≡ distance table modes node
