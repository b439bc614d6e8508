-- What a slot is, by its code: a child, a fixed leaf, an unfixed leaf or empty; only a leaf whose pair has no mode is unfixed.
use mathlib.Core.Path.{◌≡◌, refl, ◌∙◌}
use mathlib.Core.Bool.{Bool, true, false, cond, not}
use mathlib.Core.List.{List}
use Prim.Native.Nat.{ℕ, ◌+◌, ◌*◌, ◌<◌, ◌≤◌}
use native.Mathlib.Omega.{arith}
use borrow.Author.Tests.{lt-ltb, le-ltb, eqb-true, eqb-false, ltb-true, ltb-false}
use lib.Dec.{eqb, ltb}
use lib.ListN.{get_or}
use Rattle.tree.specs.Table.{child}
use Rattle.slots.specs.Slots.{Slot, child_node, even_leaf, odd_leaf, empty, fixed_leaf, pair_of, parity_of, leaf_slot, slot_of, slot, unfixed, is_fixed, leaf_of}

-- The code of a leaf whose pair has no mode.
pub record Without (modes : ℕ) (assigned : List ℕ) (code : ℕ) : Type 0 where
  pub low : modes ≤ code
  pub high : code < 3 * modes
  pub none : modes ≤ get_or assigned (pair_of modes code) modes

module _ (modes : ℕ) (assigned : List ℕ) (code : ℕ) where
  pub pair_below : modes ≤ code → code < 3 * modes → pair_of modes code < modes
  unfolding pair_of
  pair_below low high = omega arith

  pub parity_most : parity_of modes code ≤ 1
  unfolding parity_of
  parity_most = omega arith

  pub slot_child : code < modes → slot_of modes assigned code ≡ child_node code
  unfolding slot_of
  slot_child h = rw (lt-ltb code modes h)

  pub slot_empty : 3 * modes ≤ code → slot_of modes assigned code ≡ empty
  unfolding slot_of
  slot_empty h = let low : modes ≤ code = omega arith in rw (le-ltb code modes low, le-ltb code (3 * modes) h)

  pub slot_leaf : modes ≤ code → code < 3 * modes
      → slot_of modes assigned code ≡ leaf_slot modes (get_or assigned (pair_of modes code) modes) (parity_of modes code)
  unfolding slot_of
  slot_leaf low high = rw (le-ltb code modes low, lt-ltb code (3 * modes) high)

  pub slot_fixed : modes ≤ code → code < 3 * modes → get_or assigned (pair_of modes code) modes < modes
      → slot_of modes assigned code ≡ fixed_leaf (2 * get_or assigned (pair_of modes code) modes + parity_of modes code)
  unfolding leaf_slot
  slot_fixed low high some = slot_leaf low high ∙ rw (lt-ltb (get_or assigned (pair_of modes code) modes) modes some)

  slot_without : Without modes assigned code → slot_of modes assigned code ≡ cond (eqb (parity_of modes code) 0) even_leaf odd_leaf
  unfolding leaf_slot
  slot_without w = slot_leaf w.low w.high ∙ rw (le-ltb (get_or assigned (pair_of modes code) modes) modes w.none)

  pub without_unfixed : Without modes assigned code → unfixed (slot_of modes assigned code) ≡ true
  unfolding unfixed
  without_unfixed w = rw (slot_without w) (go (eqb (parity_of modes code) 0))
    where
      go : (b : Bool) → unfixed (cond b even_leaf odd_leaf) ≡ true
      go true = refl
      go false = refl

  without_not_fixed : Without modes assigned code → is_fixed (slot_of modes assigned code) ≡ false
  unfolding is_fixed
  without_not_fixed w = rw (slot_without w) (go (eqb (parity_of modes code) 0))
    where
      go : (b : Bool) → is_fixed (cond b even_leaf odd_leaf) ≡ false
      go true = refl
      go false = refl

  -- The leaf that it takes of a mode has its parity.
  pub without_leaf : Without modes assigned code → (mode : ℕ) → leaf_of (slot_of modes assigned code) mode ≡ 2 * mode + parity_of modes code
  unfolding leaf_of
  without_leaf w mode = rw (slot_without w) (go (eqb (parity_of modes code) 0) refl)
    where
      go : (b : Bool) → eqb (parity_of modes code) 0 ≡ b → leaf_of (cond b even_leaf odd_leaf) mode ≡ 2 * mode + parity_of modes code
      go true e = omega (arith, eqb-true (parity_of modes code) 0 e)
      go false e =
          let odd = eqb-false (parity_of modes code) 0 e in
          let most = parity_most in
          omega arith

  pub fixed_not_unfixed : modes ≤ code → code < 3 * modes → get_or assigned (pair_of modes code) modes < modes
      → unfixed (slot_of modes assigned code) ≡ false
  unfolding unfixed
  fixed_not_unfixed low high some = rw (slot_fixed low high some)

  pub unfixed_without : unfixed (slot_of modes assigned code) ≡ true → Without modes assigned code
  unfolding unfixed
  unfixed_without e =
      go (ltb code modes) refl (ltb code (3 * modes)) refl (ltb (get_or assigned (pair_of modes code) modes) modes) refl
    where
      no : unfixed (slot_of modes assigned code) ≡ false → Without modes assigned code
      no f = let z : ◌≡◌ {A = ℕ} 0 1 = cc in absurd (omega arith)

      go : (n : Bool) → ltb code modes ≡ n → (l : Bool) → ltb code (3 * modes) ≡ l
          → (m : Bool) → ltb (get_or assigned (pair_of modes code) modes) modes ≡ m → Without modes assigned code
      go true q l r m s = no (rw (slot_child (ltb-true code modes q)))
      go false q false r m s = no (rw (slot_empty (ltb-false code (3 * modes) r)))
      go false q true r true s =
          no
          (fixed_not_unfixed (ltb-false code modes q) (ltb-true code (3 * modes) r) (ltb-true (get_or assigned (pair_of modes code) modes) modes s))
      go false q true r false s =
          record {
            low = ltb-false code modes q;
            high = ltb-true code (3 * modes) r;
            none = ltb-false (get_or assigned (pair_of modes code) modes) modes s;
          }

  -- A slot under X or Y that isn't unfixed is fixed: it isn't empty.
  pub low_fixed : code < 3 * modes → is_fixed (slot_of modes assigned code) ≡ not (unfixed (slot_of modes assigned code))
  unfolding is_fixed unfixed slot_of leaf_slot
  low_fixed h = go (ltb code modes) (ltb code (3 * modes)) (lt-ltb code (3 * modes) h)
    where
      leaf : (m even : Bool) (number : ℕ)
          → is_fixed (cond m (fixed_leaf number) (cond even even_leaf odd_leaf)) ≡ not (unfixed (cond m (fixed_leaf number) (cond even even_leaf odd_leaf)))
      leaf true even number = refl
      leaf false true number = refl
      leaf false false number = refl

      of : Bool → Bool → Slot
      of n l =
          cond n (child_node code) (cond l (leaf_slot modes (get_or assigned (pair_of modes code) modes) (parity_of modes code)) empty)

      go : (n l : Bool) → l ≡ true → is_fixed (of n l) ≡ not (unfixed (of n l))
      go true l e = refl
      go false l e = rw e (leaf (ltb (get_or assigned (pair_of modes code) modes) modes) (eqb (parity_of modes code) 0) _)

-- The leaves of pair k.
module _ (modes k : ℕ) where
  pub even_pair : pair_of modes (modes + 2 * k) ≡ k
  unfolding pair_of
  even_pair = omega arith

  pub odd_pair : pair_of modes (modes + 2 * k + 1) ≡ k
  unfolding pair_of
  odd_pair = omega arith

  pub even_parity : parity_of modes (modes + 2 * k) ≡ 0
  unfolding parity_of
  even_parity = omega arith

  pub odd_parity : parity_of modes (modes + 2 * k + 1) ≡ 1
  unfolding parity_of
  odd_parity = omega arith

  pub even_without : (assigned : List ℕ) → k < modes → modes ≤ get_or assigned k modes → Without modes assigned (modes + 2 * k)
  even_without assigned h none = record { low = omega arith; high = omega arith; none = rw even_pair none }

  pub odd_without : (assigned : List ℕ) → k < modes → modes ≤ get_or assigned k modes → Without modes assigned (modes + 2 * k + 1)
  odd_without assigned h none = record { low = omega arith; high = omega arith; none = rw odd_pair none }

-- The slot of a node.
module _ (modes : ℕ) (table assigned : List ℕ) (node edge : ℕ) where
  pub edge_unfixed : Without modes assigned (child table node edge) → unfixed (slot modes table assigned node edge) ≡ true
  unfolding slot
  edge_unfixed w = without_unfixed modes assigned (child table node edge) w

  pub edge_not_fixed : Without modes assigned (child table node edge) → is_fixed (slot modes table assigned node edge) ≡ false
  unfolding slot
  edge_not_fixed w = without_not_fixed modes assigned (child table node edge) w

  pub edge_without : unfixed (slot modes table assigned node edge) ≡ true → Without modes assigned (child table node edge)
  unfolding slot
  edge_without e = unfixed_without modes assigned (child table node edge) e
