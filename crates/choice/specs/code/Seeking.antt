-- How the code goes through a round's choices.
use mathlib.Core.List.{List, [], ◌∷◌, map, flat_map}
use Rattle.std.specs.Prelude.{◌≡◌, ℕ, ◌+◌, ◌-◌, ◌*◌, ◌<◌, cond, eqb, length, get_or}
use Rattle.lists.specs.Least.{least}
use Rattle.entities.specs.declared.Triple.{Triple}
use Rattle.entities.specs.Limits.{row_width}
use Rattle.terms.specs.Rows.{terms_of}
use Rattle.terms.specs.Weight.{weight_of}
use Rattle.slots.specs.code.Numbers.{number_leaf}
use Rattle.choice.specs.declared.Selection.{Selection}
use Rattle.choice.specs.declared.seeking.Seeking.{Seeking}
use Rattle.choice.specs.declared.seeking.Node.{Node}
use Rattle.choice.specs.Choices.{without, with_z, choices_at}
use Rattle.choice.specs.code.Numbered.{numbered, numbered_choices}
use Rattle.choice.specs.Choice.{Choice}

-- A choice with its weight.
unfoldable pub weighed : List (List ℕ) → ℕ → Triple → Selection
weighed rows node triple = record { min_weight = weight_of triple rows; min_parent = node; leaf_indices = triple }

-- z, y and x as one number, where each is below 65536.
unfoldable pub packed : Triple → ℕ
packed triple = (triple.z * 65536 + triple.y) * 65536 + triple.x

-- Smaller where the weight is less and, on equal weight, where z, y, x are larger.
unfoldable pub standing : Selection → ℕ
standing selection =
    selection.min_weight * 281474976710656 + (281474976710655 - packed selection.leaf_indices)

-- Before the first choice: above every weight, since a row weighs at most 1.
unfoldable pub worst : ℕ → Selection
worst count = record { min_weight = count + 1; min_parent = 0; leaf_indices = record { x = 0; y = 0; z = 0 } }

-- The best so far against choices of a node, one after the other.
unfoldable pub sought : List (List ℕ) → ℕ → Selection → List Triple → Selection
sought rows node best triples = least standing best (map (weighed rows node) triples)

-- The best so far against the choices of nodes, one after the other.
unfoldable pub sought_over : ℕ → List ℕ → List ℕ → List (List ℕ) → Selection → List ℕ → Selection
sought_over modes table assigned rows best nodes =
    least standing best (flat_map (λ node. map (weighed rows node) (choices_at modes table assigned node)) nodes)

-- The choice without its weight.
unfoldable pub choice_of : Selection → Choice
choice_of selection = record { node = selection.min_parent; triple = selection.leaf_indices }

-- The rows that a choice is sought among.
abbrev pub rows_of : Seeking → List (List ℕ)
rows_of seeking = terms_of row_width seeking.gathered.count seeking.gathered.rows.now

-- The best so far against the choices of these nodes.
abbrev pub sought_among : Seeking → Selection → List ℕ → Selection
sought_among seeking best nodes = sought_over seeking.given.modes seeking.given.tree.now seeking.given.assigned.now (rows_of seeking) best nodes

-- The best so far against these choices of a node.
abbrev pub sought_at : Node → Selection → List Triple → Selection
sought_at node best triples = sought (rows_of node.among.now) node.number best triples

-- The choices of a node.
abbrev pub choices_of : Node → List Triple
choices_of node = numbered_choices node.among.now.given.modes node.among.now.free.now node.slots.x node.slots.y node.slots.z

-- A couple's x and y with each number that the node's Z may stand as where the couple takes a mode.
abbrev pub beside : Node → ℕ → Triple → List Triple
beside node mode couple = with_z couple.x couple.y (numbered node.among.now.given.modes node.slots.z (without mode node.among.now.free.now))

-- X and Y as they stand with the leaf that Z takes of a mode, unless the mode is the pair's.
abbrev pub z_leaf : Node → ℕ → ℕ → List Triple
z_leaf node pair mode =
    cond (eqb mode pair) [] (record { x = node.slots.x; y = node.slots.y; z = number_leaf node.among.now.given.modes node.slots.z mode } ∷ [])

-- X and Y take the leaves of a mode.
abbrev pub leaves_of : Node → ℕ → Triple
leaves_of node mode = record {
  x = number_leaf node.among.now.given.modes node.slots.x mode;
  y = number_leaf node.among.now.given.modes node.slots.y mode;
  z = node.slots.z;
}

-- X and Y take the leaves of each free mode in turn.
abbrev pub pairs_of : Node → List Triple
pairs_of node = flat_map (λ mode. beside node mode (leaves_of node mode)) node.among.now.free.now

-- They do so beside a Z that stands.
abbrev pub couples_of : Node → List Triple
couples_of node = flat_map (λ mode. leaves_of node mode ∷ []) node.among.now.free.now

-- Each mode has the weight of its leaves beside a Z that stands.
abbrev pub Weighed : Node → List ℕ → Type 0
Weighed node weights =
    (length weights ≡ node.among.now.given.modes)
    × ((mode : ℕ) → mode < node.among.now.given.modes → get_or weights mode 0 ≡ weight_of (leaves_of node mode) (rows_of node.among.now))
