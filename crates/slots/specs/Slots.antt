-- "Slots begin as child, even leaf, odd leaf or empty."
use Rattle.std.specs.Prelude.{◌≡◌, Bool, true, false, cond, List, [], ◌∷◌, ℕ, ◌+◌, ◌-◌, ◌*◌, ◌/◌, ◌%◌, eqb, ltb, get_or}
use Rattle.entities.specs.Parents.{parent_number}
use Rattle.tree.specs.Table.{child}

-- What stands in a slot: "child, even leaf, odd leaf or empty"; or, once its pair has a mode, "a fixed leaf".
pub data Slot : Type 0 where
  child_node : ℕ → Slot
  even_leaf : Slot
  odd_leaf : Slot
  empty : Slot
  fixed_leaf : ℕ → Slot

-- The pair k of the given tree whose leaf 2k or 2k+1 has this code.
unfoldable pub pair_of : ℕ → ℕ → ℕ
pair_of modes code = (code - modes) / 2

-- 0 for the code of an even leaf, 1 for an odd one's.
unfoldable pub parity_of : ℕ → ℕ → ℕ
parity_of modes code = (code - modes) % 2

-- A leaf's slot, by the mode of its pair, which is n where it has none yet.
unfoldable pub leaf_slot : ℕ → ℕ → ℕ → Slot
leaf_slot modes mode parity = cond (ltb mode modes) (fixed_leaf (2 * mode + parity)) (cond (eqb parity 0) even_leaf odd_leaf)

-- The slot of a child code. `assigned` has the mode of each pair of the given tree; so "A Z leaf fixes its partner's slot too".
unfoldable pub slot_of : ℕ → List ℕ → ℕ → Slot
slot_of modes assigned code =
    cond (ltb code modes) (child_node code)
    (cond (ltb code (3 * modes)) (leaf_slot modes (get_or assigned (pair_of modes code) modes) (parity_of modes code))
    empty)

-- The slot of a node under X (edge 0), Y (1) or Z (2).
unfoldable pub slot : ℕ → List ℕ → List ℕ → ℕ → ℕ → Slot
slot modes table assigned node edge = slot_of modes assigned (child table node edge)

-- The slot is an even or an odd leaf, not fixed yet.
unfoldable pub unfixed : Slot → Bool
unfixed (child_node label) = false
unfixed even_leaf = true
unfixed odd_leaf = true
unfixed empty = false
unfixed (fixed_leaf leaf) = false

-- The slot is "a fixed leaf, a child".
unfoldable pub is_fixed : Slot → Bool
is_fixed (child_node label) = true
is_fixed even_leaf = false
is_fixed odd_leaf = false
is_fixed empty = false
is_fixed (fixed_leaf leaf) = true

-- The leaf that an unfixed slot takes of a mode: "2v and 2v+1", "its parity".
unfoldable pub leaf_of : Slot → ℕ → ℕ
leaf_of even_leaf mode = 2 * mode
leaf_of odd_leaf mode = 2 * mode + 1
leaf_of (child_node label) mode = 0
leaf_of empty mode = 0
leaf_of (fixed_leaf leaf) mode = 0

-- "a child stands as 2n+1+child; empty as 2n; a fixed leaf as itself". Until it has a mode a leaf has a number behind all of these.
unfoldable pub stands_as : ℕ → Slot → ℕ
stands_as modes (child_node label) = parent_number modes label
stands_as modes even_leaf = 3 * modes + 1
stands_as modes odd_leaf = 3 * modes + 2
stands_as modes empty = 2 * modes
stands_as modes (fixed_leaf leaf) = leaf

-- A node's three slots, by the numbers that they stand as; `StandApart` says that slots are equal where these are.
unfoldable pub slots : ℕ → List ℕ → List ℕ → ℕ → List ℕ
slots modes table assigned node =
    stands_as modes (slot modes table assigned node 0)
    ∷ (stands_as modes (slot modes table assigned node 1) ∷ (stands_as modes (slot modes table assigned node 2) ∷ []))

-- Two slots that stand as the same number are the same slot.
abbrev pub StandApart : Type 0
StandApart =
    (modes : ℕ) (assigned : List ℕ) (code other : ℕ) → stands_as modes (slot_of modes assigned code) ≡ stands_as modes (slot_of modes assigned other)
    → slot_of modes assigned code ≡ slot_of modes assigned other
