-- The round list: a slot that isn't unfixed stays as it is, so a complete node stays complete, and after a round the nodes that remain are
-- those that remained before it but the complete ones.
use mathlib.Core.Path.{◌≡◌, refl, ◌∙◌, sym}
use mathlib.Core.Bool.{Bool, true, false, not, ◌&&◌}
use mathlib.Core.List.{List}
use Prim.Native.Nat.{ℕ, ◌*◌}
use native.Mathlib.Omega.{arith}
use borrow.Author.Tests.{ltb-true, ltb-false, not-true}
use lib.Dec.{ltb}
use lib.ListN.{get_or}
use Rattle.lists.specs.Members.{keep}
use Rattle.lists.proofs.Tests.{both}
use Rattle.lists.proofs.Kept.{keep_twice}
use Rattle.tree.specs.Table.{nodes, child}
use Rattle.slots.specs.Slots.{Slot, child_node, even_leaf, odd_leaf, empty, fixed_leaf, pair_of, slot_of, slot, unfixed, is_fixed}
use Rattle.slots.specs.Nodes.{complete, remaining}
use Rattle.slots.proofs.SlotCases.{slot_child, slot_empty, slot_leaf, without_unfixed}
use Rattle.topphatt.specs.Assignment.{Given}

fixed_so : (slot : Slot) → is_fixed slot ≡ true → unfixed slot ≡ false
unfolding is_fixed unfixed
fixed_so (child_node label) e = refl
fixed_so even_leaf e = sym e
fixed_so odd_leaf e = sym e
fixed_so empty e = refl
fixed_so (fixed_leaf leaf) e = refl

module _ (modes : ℕ) (assigned now : List ℕ) (given : Given modes assigned now) where
  pub slot_stays : (code : ℕ) → unfixed (slot_of modes assigned code) ≡ false → slot_of modes now code ≡ slot_of modes assigned code
  slot_stays code e =
      go (ltb code modes) refl (ltb code (3 * modes)) refl (ltb (get_or assigned (pair_of modes code) modes) modes) refl
    where
      go : (n : Bool) → ltb code modes ≡ n → (l : Bool) → ltb code (3 * modes) ≡ l
          → (m : Bool) → ltb (get_or assigned (pair_of modes code) modes) modes ≡ m → slot_of modes now code ≡ slot_of modes assigned code
      go true q l r m s = let h = ltb-true code modes q in slot_child modes now code h ∙ sym (slot_child modes assigned code h)
      go false q false r m s = let h = ltb-false code (3 * modes) r in slot_empty modes now code h ∙ sym (slot_empty modes assigned code h)
      go false q true r true s =
          let low = ltb-false code modes q in
          let high = ltb-true code (3 * modes) r in
          rw (slot_leaf modes now code low high, slot_leaf modes assigned code low high, given.stays (pair_of modes code) (ltb-true (get_or assigned (pair_of modes code) modes) modes s))
      go false q true r false s =
          let f = without_unfixed modes assigned code
          (record {
            low = ltb-false code modes q;
            high = ltb-true code (3 * modes) r;
            none = ltb-false (get_or assigned (pair_of modes code) modes) modes s;
          }) in
          let z : ◌≡◌ {A = ℕ} 0 1 = cc in absurd (omega arith)

  module _ (table : List ℕ) where
    pub complete_stays : (node : ℕ) → complete modes table assigned node ≡ true → complete modes table now node ≡ true
    unfolding complete slot
    complete_stays node e =
        let x = slot_of modes assigned (child table node 0) in
        let y = slot_of modes assigned (child table node 1) in
        let z = slot_of modes assigned (child table node 2) in
        let p = both (is_fixed x) (is_fixed y && not (unfixed z)) e in
        let q = both (is_fixed y) (not (unfixed z)) p.1 in
        rw (
          slot_stays (child table node 0) (fixed_so x p.0),
          slot_stays (child table node 1) (fixed_so y q.0),
          slot_stays (child table node 2) (not-true (unfixed z) q.1),
        ) e

module _ (modes : ℕ) (table assigned now : List ℕ) (given : Given modes assigned now) where
  leaves_by : (node : ℕ) → not (complete modes table now node) ≡ (not (complete modes table assigned node) && not (complete modes table now node))
  leaves_by node = go (complete modes table assigned node) refl
    where
      go : (a : Bool) → complete modes table assigned node ≡ a → not (complete modes table now node) ≡ (not a && not (complete modes table now node))
      go true e = rw (complete_stays modes assigned now given table node e)
      go false e = refl

  pub complete_leave : remaining modes table now ≡ keep (λ node. not (complete modes table now node)) (remaining modes table assigned)
  unfolding remaining
  complete_leave =
      keep_twice (λ node. not (complete modes table assigned node)) (λ node. not (complete modes table now node))
      (λ node. not (complete modes table now node)) leaves_by (nodes modes)
