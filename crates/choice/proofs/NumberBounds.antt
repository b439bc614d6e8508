-- What the choices of a node are made of; their numbers are small, as those of slots are: at most 3n+2.
use mathlib.Core.Path.{◌≡◌, refl, ap, sym}
use mathlib.Core.Bool.{Bool, true, false, cond, not, ◌&&◌}
use mathlib.Core.List.Memᴰ
use mathlib.Core.List.{List, [], ◌∷◌, map, flat_map, Memᴰ}
use mathlib.Core.Logic.{◌⊎◌, inl, inr, ⊎_elim}
use Prim.Native.Nat.{ℕ, ◌+◌, ◌*◌, ◌<◌, ◌≤◌}
use native.Mathlib.Omega.{arith}
use borrow.Author.Tests.{eqb-false, not-true}
use lib.Dec.{eqb}
use Rattle.lists.specs.Members.{some_of}
use Rattle.lists.specs.Ranges.{listed}
use Rattle.lists.proofs.Membership.{of_kept, of_joined, counted_below}
use Rattle.entities.specs.declared.Triple.{Triple}
use Rattle.tree.specs.Table.{child}
use Rattle.slots.specs.Slots.{Slot, slot_of, slot, unfixed, leaf_of, stands_as}
use Rattle.slots.proofs.SlotNumbers.{slot_most, leaf_most}
use Rattle.choice.specs.Choices.{unassigned, without, numbers, with_z, choices, choices_at}

module _ (modes : ℕ) where
  -- An unassigned mode is a mode; no entry has it.
  pub of_unassigned : {mode : ℕ} (assigned : List ℕ) → Memᴰ mode (unassigned modes assigned) → (mode < modes) × (some_of (eqb mode) assigned ≡ false)
  unfolding unassigned
  of_unassigned assigned m =
      let r = of_kept (λ mode. not (some_of (eqb mode) assigned)) (listed (λ mode. mode) 0 modes) m in
      (omega (arith, counted_below _ 0 modes r.0), not-true (some_of (eqb _) assigned) r.1)

  pub of_without : {other : ℕ} (mode : ℕ) (free : List ℕ) → Memᴰ other (without mode free) → Memᴰ other free × (other ≡ mode → ⊥)
  unfolding without
  of_without {other} mode free m =
      let r = of_kept (λ other. not (eqb other mode)) free m in
      (r.0, eqb-false other mode (not-true (eqb other mode) r.1))

  -- What a slot may stand as: where it is unfixed the leaf of a free mode, else its own number.
  pub of_numbers : {number : ℕ} (slot : Slot) (free : List ℕ) → Memᴰ number (numbers modes slot free)
      → ((unfixed slot ≡ true) × ((mode : ℕ) × Memᴰ mode free × (number ≡ leaf_of slot mode)))
      ⊎ ((unfixed slot ≡ false) × (number ≡ stands_as modes slot))
  unfolding numbers
  of_numbers {number} slot free m = go (unfixed slot) refl m
    where
      go : (b : Bool) → unfixed slot ≡ b → Memᴰ number (cond b (map (leaf_of slot) free) (stands_as modes slot ∷ []))
          → ((unfixed slot ≡ true) × ((mode : ℕ) × Memᴰ mode free × (number ≡ leaf_of slot mode)))
          ⊎ ((unfixed slot ≡ false) × (number ≡ stands_as modes slot))
      go true q n = let r = Memᴰ.of_map (leaf_of slot) free n in inl (q, (r.0, r.1, sym r.2))
      go false q n = inr (q, Memᴰ.eq_of_singleton n)

  -- What three slots may stand as.
  pub record Pairwise (free : List ℕ) (x y z : Slot) (triple : Triple) : Type 0 where
    pub x_unfixed : unfixed x ≡ true
    pub y_unfixed : unfixed y ≡ true
    pub mode : ℕ
    pub member : Memᴰ mode free
    pub x_is : triple.x ≡ leaf_of x mode
    pub y_is : triple.y ≡ leaf_of y mode
    pub z_is : Memᴰ triple.z (numbers modes z (without mode free))

  pub record Singly (free : List ℕ) (x y z : Slot) (triple : Triple) : Type 0 where
    pub not_both : (unfixed x && unfixed y) ≡ false
    pub x_is : triple.x ≡ stands_as modes x
    pub y_is : triple.y ≡ stands_as modes y
    pub z_is : Memᴰ triple.z (numbers modes z free)

  of_with_z : {triple : Triple} (x y : ℕ) (zs : List ℕ) → Memᴰ triple (with_z x y zs) → (triple.x ≡ x) × (triple.y ≡ y) × Memᴰ triple.z zs
  unfolding with_z
  of_with_z {triple} x y zs m =
      let r = Memᴰ.of_map (λ z. record { x = x; y = y; z = z }) zs m in
      (sym (ap (λ (t : Triple). t.x) r.2), sym (ap (λ (t : Triple). t.y) r.2), rw (sym (ap (λ (t : Triple). t.z) r.2)) r.1)

  pub of_choices : {triple : Triple} (free : List ℕ) (x y z : Slot) → Memᴰ triple (choices modes free x y z)
      → Pairwise free x y z triple ⊎ Singly free x y z triple
  unfolding choices
  of_choices {triple} free x y z m = go (unfixed x) refl (unfixed y) refl m
    where
      single : (unfixed x && unfixed y) ≡ false → Memᴰ triple (with_z (stands_as modes x) (stands_as modes y) (numbers modes z free)) → Singly free x y z triple
      single e n =
          let r = of_with_z (stands_as modes x) (stands_as modes y) (numbers modes z free) n in
          record { not_both = e; x_is = r.0; y_is = r.1; z_is = r.2 }

      go : (a : Bool) → unfixed x ≡ a → (b : Bool) → unfixed y ≡ b
          → Memᴰ triple (cond (a && b) (flat_map (λ mode. with_z (leaf_of x mode) (leaf_of y mode) (numbers modes z (without mode free))) free) (with_z (stands_as modes x) (stands_as modes y) (numbers modes z free)))
          → Pairwise free x y z triple ⊎ Singly free x y z triple
      go true p true q n =
          let r = of_joined (λ mode. with_z (leaf_of x mode) (leaf_of y mode) (numbers modes z (without mode free))) free n in
          let t = of_with_z (leaf_of x r.0) (leaf_of y r.0) (numbers modes z (without r.0 free)) r.2 in
          inl (record { x_unfixed = p; y_unfixed = q; mode = r.0; member = r.1; x_is = t.0; y_is = t.1; z_is = t.2 })
      go true p false q n = inr (single (rw (p, q)) n)
      go false p b q n = inr (single (rw p) n)

  -- All numbers of a choice are at most 3n+2.
  pub record Small (triple : Triple) : Type 0 where
    pub x_small : triple.x ≤ 3 * modes + 2
    pub y_small : triple.y ≤ 3 * modes + 2
    pub z_small : triple.z ≤ 3 * modes + 2

  number_most : {number : ℕ} (slot : Slot) (free : List ℕ) → stands_as modes slot ≤ 3 * modes + 2 → ((mode : ℕ) → Memᴰ mode free → mode < modes)
      → Memᴰ number (numbers modes slot free) → number ≤ 3 * modes + 2
  number_most slot free h below m =
      ⊎_elim
      (λ leaf. omega (arith, leaf.1.2, leaf_most modes slot leaf.1.0 (below leaf.1.0 leaf.1.1)))
      (λ same. omega (arith, same.1))
      (of_numbers slot free m)

  pub choices_small : {triple : Triple} (table assigned : List ℕ) (node : ℕ) → Memᴰ triple (choices_at modes table assigned node) → Small triple
  unfolding choices_at slot
  choices_small {triple} table assigned node m =
      let x = slot_of modes assigned (child table node 0) in
      let y = slot_of modes assigned (child table node 1) in
      let z = slot_of modes assigned (child table node 2) in
      let free = unassigned modes assigned in
      let hx : stands_as modes x ≤ 3 * modes + 2 = slot_most modes assigned (child table node 0) in
      let hy : stands_as modes y ≤ 3 * modes + 2 = slot_most modes assigned (child table node 1) in
      let hz : stands_as modes z ≤ 3 * modes + 2 = slot_most modes assigned (child table node 2) in
      let below : (mode : ℕ) → Memᴰ mode free → mode < modes = λ mode n. (of_unassigned assigned n).0 in
      ⊎_elim {C = Small triple}
      (λ (c : Pairwise free x y z triple).
      let h = below c.mode c.member in
      record {
        x_small = omega (arith, c.x_is, leaf_most modes x c.mode h);
        y_small = omega (arith, c.y_is, leaf_most modes y c.mode h);
        z_small = number_most z (without c.mode free) hz (λ mode n. below mode (of_without c.mode free n).0) c.z_is;
      })
      (λ (c : Singly free x y z triple).
      record {
        x_small = omega (arith, c.x_is);
        y_small = omega (arith, c.y_is);
        z_small = number_most z free hz below c.z_is;
      })
      (of_choices free x y z m)
