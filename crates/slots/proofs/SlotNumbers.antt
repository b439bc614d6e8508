-- The number that a slot stands as: at most 3n+2, its own, and read by the code as the slot is.
use mathlib.Core.Path.{◌≡◌, refl, ap, ◌∙◌, sym}
use mathlib.Core.Bool.{Bool, true, false, cond}
use mathlib.Core.List.{List, [], ◌∷◌}
use Prim.Native.Nat.{ℕ, ◌+◌, ◌-◌, ◌*◌, ◌/◌, ◌%◌, ◌<◌, ◌≤◌}
use native.Mathlib.Omega.{arith}
use borrow.Author.Tests.{ltb-true, lt-ltb, le-ltb, eq-eqb, ne_eqb, eqb-true, eqb-false}
use lib.Dec.{eqb, ltb}
use lib.ListN.{length, get_or}
use Rattle.lists.proofs.Parts.{read_within}
use Rattle.entities.specs.declared.Triple.{Triple}
use Rattle.tree.specs.Table.{child}
use Rattle.slots.specs.Slots.{Slot, child_node, even_leaf, odd_leaf, empty, fixed_leaf, pair_of, parity_of, leaf_slot, slot_of, slot, slots, unfixed, is_fixed, leaf_of, stands_as, StandApart}
use Rattle.slots.specs.code.Numbers.{number_unfixed, number_fixed, number_leaf}
use Rattle.slots.specs.code.Promises.{SlotsAre}
use Rattle.slots.proofs.SlotCases.{slot_leaf, parity_most}

module _ (modes : ℕ) where
  -- A child is a node and a fixed leaf a leaf, as they are in a tree.
  abbrev pub Within : Slot → Type 0
  Within (child_node label) = label < modes
  Within even_leaf = Unit
  Within odd_leaf = Unit
  Within empty = Unit
  Within (fixed_leaf leaf) = leaf < 2 * modes

  leaf_within : (mode parity : ℕ) → parity ≤ 1 → Within (leaf_slot modes mode parity)
  unfolding leaf_slot
  leaf_within mode parity p = go (ltb mode modes) refl (eqb parity 0)
    where
      go : (b : Bool) → ltb mode modes ≡ b → (even : Bool) → Within (cond b (fixed_leaf (2 * mode + parity)) (cond even even_leaf odd_leaf))
      go true q even = omega (arith, ltb-true mode modes q)
      go false q true = tt
      go false q false = tt

  pub slot_within : (assigned : List ℕ) (code : ℕ) → Within (slot_of modes assigned code)
  unfolding slot_of
  slot_within assigned code = go (ltb code modes) refl (ltb code (3 * modes))
    where
      go : (n : Bool) → ltb code modes ≡ n → (l : Bool)
          → Within (cond n (child_node code) (cond l (leaf_slot modes (get_or assigned (pair_of modes code) modes) (parity_of modes code)) empty))
      go true q l = ltb-true code modes q
      go false q true = leaf_within (get_or assigned (pair_of modes code) modes) (parity_of modes code) (parity_most modes assigned code)
      go false q false = tt

  -- The numbers.
  stands_most : (slot : Slot) → Within slot → stands_as modes slot ≤ 3 * modes + 2
  unfolding stands_as
  stands_most (child_node label) h = omega arith
  stands_most even_leaf h = omega arith
  stands_most odd_leaf h = omega arith
  stands_most empty h = omega arith
  stands_most (fixed_leaf leaf) h = omega arith

  pub leaf_stands : (mode parity : ℕ) → modes ≤ mode → parity ≤ 1 → stands_as modes (leaf_slot modes mode parity) ≡ 3 * modes + 1 + parity
  unfolding leaf_slot stands_as
  leaf_stands mode parity h p = rw (le-ltb mode modes h) (go (eqb parity 0) refl)
    where
      go : (b : Bool) → eqb parity 0 ≡ b → stands_as modes (cond b even_leaf odd_leaf) ≡ 3 * modes + 1 + parity
      go true e = omega (arith, eqb-true parity 0 e)
      go false e = let odd = eqb-false parity 0 e in omega arith

  pub slot_most : (assigned : List ℕ) (code : ℕ) → stands_as modes (slot_of modes assigned code) ≤ 3 * modes + 2
  slot_most assigned code = stands_most (slot_of modes assigned code) (slot_within assigned code)

  pub leaf_most : (slot : Slot) (mode : ℕ) → mode < modes → leaf_of slot mode < 2 * modes
  unfolding leaf_of
  leaf_most (child_node label) mode h = omega arith
  leaf_most even_leaf mode h = omega arith
  leaf_most odd_leaf mode h = omega arith
  leaf_most empty mode h = omega arith
  leaf_most (fixed_leaf leaf) mode h = omega arith

  -- What the code reads off a number is what the slot is.
  pub unfixed_number : (slot : Slot) → Within slot → number_unfixed modes (stands_as modes slot) ≡ unfixed slot
  unfolding number_unfixed stands_as unfixed
  unfixed_number (child_node label) h = le-ltb (3 * modes) (2 * modes + 1 + label) (omega arith)
  unfixed_number even_leaf h = lt-ltb (3 * modes) (3 * modes + 1) (omega arith)
  unfixed_number odd_leaf h = lt-ltb (3 * modes) (3 * modes + 2) (omega arith)
  unfixed_number empty h = le-ltb (3 * modes) (2 * modes) (omega arith)
  unfixed_number (fixed_leaf leaf) h = le-ltb (3 * modes) leaf (omega arith)

  pub fixed_number : (slot : Slot) → Within slot → number_fixed modes (stands_as modes slot) ≡ is_fixed slot
  unfolding number_fixed stands_as unfixed is_fixed
  fixed_number (child_node label) h =
      rw (unfixed_number (child_node label) h, ne_eqb (2 * modes + 1 + label) (2 * modes) (λ e. omega arith))
  fixed_number even_leaf h = rw (unfixed_number even_leaf h)
  fixed_number odd_leaf h = rw (unfixed_number odd_leaf h)
  fixed_number empty h = rw (unfixed_number empty h, eq-eqb (2 * modes) (2 * modes) refl)
  fixed_number (fixed_leaf leaf) h = rw (unfixed_number (fixed_leaf leaf) h, ne_eqb leaf (2 * modes) (λ e. omega arith))

  -- So of a slot of a node.
  module _ (table assigned : List ℕ) (node edge number : ℕ) (is : number ≡ stands_as modes (slot modes table assigned node edge)) where
    pub edge_number_unfixed : number_unfixed modes number ≡ unfixed (slot modes table assigned node edge)
    unfolding slot
    edge_number_unfixed =
        rw is (unfixed_number (slot_of modes assigned (child table node edge)) (slot_within assigned (child table node edge)))

    pub edge_number_fixed : number_fixed modes number ≡ is_fixed (slot modes table assigned node edge)
    unfolding slot
    edge_number_fixed =
        rw is (fixed_number (slot_of modes assigned (child table node edge)) (slot_within assigned (child table node edge)))

  pub leaf_number : (slot : Slot) → unfixed slot ≡ true → (mode : ℕ) → number_leaf modes (stands_as modes slot) mode ≡ leaf_of slot mode
  unfolding number_leaf stands_as unfixed leaf_of
  leaf_number (child_node label) e mode = let z : ◌≡◌ {A = ℕ} 0 1 = cc in absurd (omega arith)
  leaf_number even_leaf e mode = omega arith
  leaf_number odd_leaf e mode = omega arith
  leaf_number empty e mode = let z : ◌≡◌ {A = ℕ} 0 1 = cc in absurd (omega arith)
  leaf_number (fixed_leaf leaf) e mode = let z : ◌≡◌ {A = ℕ} 0 1 = cc in absurd (omega arith)

  pub unfixed_above : (number : ℕ) → number_unfixed modes number ≡ true → 3 * modes < number
  unfolding number_unfixed
  unfixed_above number e = ltb-true (3 * modes) number e

-- The slot that stands as a number; so no two slots of a tree stand as the same.
module _ (modes : ℕ) where
  slot_at : ℕ → Slot
  slot_at number =
      cond (ltb number (2 * modes)) (fixed_leaf number)
      (cond (eqb number (2 * modes)) empty
      (cond (ltb number (3 * modes + 1)) (child_node (number - (2 * modes + 1)))
      (cond (eqb number (3 * modes + 1)) even_leaf odd_leaf)))

  slot_back : (slot : Slot) → Within modes slot → slot_at (stands_as modes slot) ≡ slot
  unfolding slot_at stands_as
  slot_back (child_node label) h =
      let up : 2 * modes ≤ 2 * modes + 1 + label = omega arith in
      let low : 2 * modes + 1 + label < 3 * modes + 1 = omega arith in
      rw (le-ltb (2 * modes + 1 + label) (2 * modes) up, ne_eqb (2 * modes + 1 + label) (2 * modes) (λ e. omega arith), lt-ltb (2 * modes + 1 + label) (3 * modes + 1) low)
      (ap child_node (omega arith))
  slot_back even_leaf h =
      let up : 2 * modes ≤ 3 * modes + 1 = omega arith in
      let same : 3 * modes + 1 ≤ 3 * modes + 1 = omega arith in
      rw (le-ltb (3 * modes + 1) (2 * modes) up, ne_eqb (3 * modes + 1) (2 * modes) (λ e. omega arith), le-ltb (3 * modes + 1) (3 * modes + 1) same, eq-eqb (3 * modes + 1) (3 * modes + 1) refl)
  slot_back odd_leaf h =
      let up : 2 * modes ≤ 3 * modes + 2 = omega arith in
      let over : 3 * modes + 1 ≤ 3 * modes + 2 = omega arith in
      rw (le-ltb (3 * modes + 2) (2 * modes) up, ne_eqb (3 * modes + 2) (2 * modes) (λ e. omega arith), le-ltb (3 * modes + 2) (3 * modes + 1) over, ne_eqb (3 * modes + 2) (3 * modes + 1) (λ e. omega arith))
  slot_back empty h =
      let same : 2 * modes ≤ 2 * modes = omega arith in
      rw (le-ltb (2 * modes) (2 * modes) same, eq-eqb (2 * modes) (2 * modes) refl)
  slot_back (fixed_leaf leaf) h = rw (lt-ltb leaf (2 * modes) h)

pub stand_apart : StandApart
stand_apart modes assigned code other e =
    sym (slot_back modes (slot_of modes assigned code) (slot_within modes assigned code))
    ∙ ap (slot_at modes) e
    ∙ slot_back modes (slot_of modes assigned other) (slot_within modes assigned other)

-- A leaf's slot as the code reads it, with any number where nothing stands; and a node's slots as a list.
pub slot_read : (modes : ℕ) (assigned : List ℕ) (code : ℕ) → modes ≤ code → code < 3 * modes → length assigned ≡ modes
    → slot_of modes assigned code ≡ leaf_slot modes (get_or assigned ((code - modes) / 2) 0) ((code - modes) % 2)
unfolding pair_of parity_of
slot_read modes assigned code h k e =
    slot_leaf modes assigned code h k
    ∙ ap (λ mode. leaf_slot modes mode ((code - modes) % 2)) (read_within assigned ((code - modes) / 2) modes 0 (omega arith))

pub slots_listed : (modes : ℕ) (table assigned : List ℕ) (node : ℕ) (r : Triple) → SlotsAre modes table assigned node r
    → r.x ∷ (r.y ∷ (r.z ∷ [])) ≡ slots modes table assigned node
unfolding slots
slots_listed modes table assigned node r are = rw (are.x_is, are.y_is, are.z_is)
