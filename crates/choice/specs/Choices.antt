-- "Choices: an X and Y leaf pair takes 2v and 2v+1 of an unassigned mode v; a Z leaf takes its parity of an unassigned mode, not the pair's; a child stands as 2n+1+child; empty as 2n; a fixed leaf as itself."
use Rattle.std.specs.Prelude.{cond, not, ◌&&◌, ℕ, eqb}
use mathlib.Core.List.{List, [], ◌∷◌, map, flat_map}
use Rattle.lists.specs.Members.{keep, some_of}
use Rattle.lists.specs.Ranges.{listed}
use Rattle.entities.specs.declared.Triple.{Triple}
use Rattle.slots.specs.Slots.{Slot, slot, unfixed, leaf_of, stands_as}

-- The modes that no pair has yet, ascending.
unfoldable pub unassigned : ℕ → List ℕ → List ℕ
unassigned modes assigned = keep (λ mode. not (some_of (eqb mode) assigned)) (listed (λ mode. mode) 0 modes)

-- The modes but one.
unfoldable pub without : ℕ → List ℕ → List ℕ
without mode free = keep (λ other. not (eqb other mode)) free

-- The numbers that a slot may stand as, of these modes.
unfoldable pub numbers : ℕ → Slot → List ℕ → List ℕ
numbers modes slot free = cond (unfixed slot) (map (leaf_of slot) free) (stands_as modes slot ∷ [])

-- x and y with each number of a Z slot.
unfoldable pub with_z : ℕ → ℕ → List ℕ → List Triple
with_z x y zs = map (λ z. record { x = x; y = y; z = z }) zs

-- The choices of three slots.
unfoldable pub choices : ℕ → List ℕ → Slot → Slot → Slot → List Triple
choices modes free x y z =
    cond (unfixed x && unfixed y)
    (flat_map (λ mode. with_z (leaf_of x mode) (leaf_of y mode) (numbers modes z (without mode free))) free)
    (with_z (stands_as modes x) (stands_as modes y) (numbers modes z free))

-- The choices of a node.
unfoldable pub choices_at : ℕ → List ℕ → List ℕ → ℕ → List Triple
choices_at modes table assigned node =
    choices modes (unassigned modes assigned)
    (slot modes table assigned node 0) (slot modes table assigned node 1) (slot modes table assigned node 2)
