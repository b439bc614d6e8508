-- The choices that the code makes of the slots' numbers are those of the slots.
use mathlib.Core.Path.{◌≡◌, refl, ap, fun_ext}
use mathlib.Core.Bool.{Bool, true, false, cond, ◌&&◌}
use mathlib.Core.List.{List, [], ◌∷◌, map, flat_map}
use Prim.Native.Nat.{ℕ}
use Rattle.entities.specs.declared.Triple.{Triple}
use Rattle.tree.specs.Table.{child}
use Rattle.slots.specs.Slots.{Slot, slot, unfixed, leaf_of, stands_as}
use Rattle.slots.specs.code.Numbers.{number_leaf}
use Rattle.slots.specs.code.Promises.{SlotsAre}
use Rattle.slots.proofs.SlotNumbers.{Within, slot_within, unfixed_number, leaf_number}
use Rattle.choice.specs.Choices.{unassigned, without, numbers, with_z, choices, choices_at}
use Rattle.choice.specs.code.Numbered.{numbered, numbered_choices}

module _ (modes : ℕ) where
  numbered_is : (slot : Slot) → Within modes slot → (free : List ℕ) → numbered modes (stands_as modes slot) free ≡ numbers modes slot free
  unfolding numbered numbers
  numbered_is slot h free = rw (unfixed_number modes slot h) (go (unfixed slot) refl)
    where
      go : (b : Bool) → unfixed slot ≡ b
          → cond b (map (number_leaf modes (stands_as modes slot)) free) (stands_as modes slot ∷ []) ≡ cond b (map (leaf_of slot) free) (stands_as modes slot ∷ [])
      go true e = ap (λ f. map f free) (fun_ext (leaf_number modes slot e))
      go false e = refl

  numbered_right : (free : List ℕ) (x y z : Slot) → Within modes x → Within modes y → Within modes z
      → numbered_choices modes free (stands_as modes x) (stands_as modes y) (stands_as modes z) ≡ choices modes free x y z
  unfolding numbered_choices choices
  numbered_right free x y z hx hy hz =
      rw (unfixed_number modes x hx, unfixed_number modes y hy, numbered_is z hz free) (go (unfixed x) refl (unfixed y) refl)
    where
      single : List Triple
      single = with_z (stands_as modes x) (stands_as modes y) (numbers modes z free)

      go : (a : Bool) → unfixed x ≡ a → (b : Bool) → unfixed y ≡ b
          → cond (a && b)
          (flat_map (λ mode. with_z (number_leaf modes (stands_as modes x) mode) (number_leaf modes (stands_as modes y) mode) (numbered modes (stands_as modes z) (without mode free))) free)
          single
          ≡ cond (a && b) (flat_map (λ mode. with_z (leaf_of x mode) (leaf_of y mode) (numbers modes z (without mode free))) free) single
      go true e true f =
          ap (λ each. flat_map each free)
          (fun_ext (λ mode. rw (leaf_number modes x e mode, leaf_number modes y f mode, numbered_is z hz (without mode free))))
      go true e false f = refl
      go false e b f = refl

  -- Those of a node's slots, by the numbers that are read.
  pub numbered_at : (table assigned : List ℕ) (node : ℕ) (r : Triple) → SlotsAre modes table assigned node r
      → numbered_choices modes (unassigned modes assigned) r.x r.y r.z ≡ choices_at modes table assigned node
  unfolding choices_at slot
  numbered_at table assigned node r are =
      rw (are.x_is, are.y_is, are.z_is)
      (numbered_right (unassigned modes assigned) (slot modes table assigned node 0) (slot modes table assigned node 1) (slot modes table assigned node 2)
      (slot_within modes assigned (child table node 0)) (slot_within modes assigned (child table node 1)) (slot_within modes assigned (child table node 2)))
