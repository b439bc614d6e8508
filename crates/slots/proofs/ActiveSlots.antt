-- An active node's unfixed slots, on an accepted tree: X and Y are the two leaves of one pair without a mode, or neither is unfixed and Z is.
-- Were X an unfixed leaf and Y a node, the leaf's partner would end the z-chain from Y under Z of a node farther from the root that isn't
-- complete either.
use Rattle.std.specs.Prelude.{Ok}
use mathlib.Core.Path.{◌≡◌, refl, ◌∙◌, sym}
use mathlib.Core.Bool.{Bool, true, false, ◌&&◌}
use mathlib.Core.List.{List}
use mathlib.Core.Logic.{◌⊎◌, inl, inr, ⊎_elim}
use Prim.Native.Nat.{ℕ, ◌+◌, ◌*◌, ◌<◌, ◌≤◌}
use native.Mathlib.Omega.{arith}
use borrow.Author.Tests.{ltb-true, ltb-false}
use lib.Dec.{ltb}
use lib.ListN.{get_or}
use Rattle.tree.specs.Table.{child}
use Rattle.tree.specs.Pairs.{chain_end}
use Rattle.tree.specs.Check.{tree_checked}
use Rattle.tree.specs.Accepted.{PairUnder}
use Rattle.tree.proofs.TableSteps.{chain_rests}
use Rattle.tree.proofs.EachHosts.{each_hosts, pair_children}
use Rattle.slots.specs.Slots.{pair_of, slot_of, slot, unfixed, is_fixed}
use Rattle.slots.specs.Nodes.{complete}
use Rattle.slots.proofs.ActiveNodes.{Active}
use Rattle.slots.proofs.AcceptedFits.{accepted_fits}
use Rattle.slots.proofs.SlotCases.{Without, without_unfixed, unfixed_without, low_fixed, even_pair, odd_pair, even_without, odd_without}
use Rattle.slots.proofs.Distances.{deeper, chain_holder}

-- X and Y are the leaves of pair k, which has no mode.
pub record PairHere (modes : ℕ) (table assigned : List ℕ) (node k : ℕ) : Type 0 where
  pub inside : k < modes
  pub x_is : child table node 0 ≡ modes + 2 * k
  pub y_is : child table node 1 ≡ modes + 2 * k + 1
  pub none : modes ≤ get_or assigned k modes

-- Only Z is unfixed.
pub record OnlyZ (modes : ℕ) (table assigned : List ℕ) (node : ℕ) : Type 0 where
  pub x_fixed : unfixed (slot modes table assigned node 0) ≡ false
  pub y_fixed : unfixed (slot modes table assigned node 1) ≡ false
  pub z_without : Without modes assigned (child table node 2)

module _ (modes : ℕ) (table assigned : List ℕ) (node : ℕ) where
  pub z_incomplete : Without modes assigned (child table node 2) → complete modes table assigned node ≡ false
  unfolding complete slot
  z_incomplete w =
      rw (without_unfixed modes assigned (child table node 2) w)
      (go (is_fixed (slot_of modes assigned (child table node 0))) (is_fixed (slot_of modes assigned (child table node 1))))
    where
      go : (a b : Bool) → (a && (b && false)) ≡ false
      go true true = refl
      go true false = refl
      go false b = refl

  pub x_incomplete : is_fixed (slot modes table assigned node 0) ≡ false → complete modes table assigned node ≡ false
  unfolding complete
  x_incomplete e = rw e

  pub here_unfixed : (k : ℕ) → PairHere modes table assigned node k
      → (unfixed (slot modes table assigned node 0) ≡ true) × (unfixed (slot modes table assigned node 1) ≡ true)
  unfolding slot
  here_unfixed k p = (
    rw p.x_is (without_unfixed modes assigned (modes + 2 * k) (even_without modes k assigned p.inside p.none)),
    rw p.y_is (without_unfixed modes assigned (modes + 2 * k + 1) (odd_without modes k assigned p.inside p.none)),
  )

module _ (most modes : ℕ) (table : List ℕ) (accepted : tree_checked most modes table ≡ Ok tt) (heuristic : ℕ) (assigned : List ℕ) where
  module _ (node : ℕ) (a : Active modes table heuristic assigned node) (k : ℕ) (few : k < modes) (pair : PairUnder modes table k node) where
    -- A leaf whose pair has no mode doesn't end a z-chain from a node under X or Y: what ends there is the child itself.
    child_here : (edge end : ℕ) → edge < 3 → chain_end modes table modes (child table node edge) ≡ end → Without modes assigned end
        → child table node edge ≡ end
    child_here edge end h e w = go (ltb (child table node edge) modes) refl
      where
        go : (b : Bool) → ltb (child table node edge) modes ≡ b → child table node edge ≡ end
        go false q = sym (chain_rests modes table modes (child table node edge) (ltb-false (child table node edge) modes q)) ∙ e
        go true q =
            let low = ltb-true (child table node edge) modes q in
            let r = chain_holder most modes table accepted modes (child table node edge) end low e w.low in
            let open_z : Without modes assigned (child table r.holder 2) = rw r.holds w in
            absurd
            (omega (
              arith,
              a.far r.holder r.inside (z_incomplete modes table assigned r.holder open_z),
              r.far,
              deeper most modes table accepted node edge a.inside h low,
            ))

    pair_here : modes ≤ get_or assigned k modes → PairHere modes table assigned node k
    pair_here none =
        record {
          inside = few;
          x_is = child_here 0 (modes + 2 * k) (omega arith) pair.even (even_without modes k assigned few none);
          y_is = child_here 1 (modes + 2 * k + 1) (omega arith) pair.odd (odd_without modes k assigned few none);
          none = none;
        }

    -- A leaf without a mode under X or Y is of pair k.
    pair_without : (edge end : ℕ) → chain_end modes table modes (child table node edge) ≡ end → pair_of modes end ≡ k
        → Without modes assigned (child table node edge) → modes ≤ get_or assigned k modes
    pair_without edge end e same w =
        rw (sym (chain_rests modes table modes (child table node edge) w.low) ∙ e, same) at w.none

    slots_here : PairHere modes table assigned node k ⊎ OnlyZ modes table assigned node
    unfolding slot complete
    slots_here =
        go (unfixed (slot_of modes assigned (child table node 0))) refl (unfixed (slot_of modes assigned (child table node 1))) refl
        (unfixed (slot_of modes assigned (child table node 2))) refl
      where
        go : (x : Bool) → unfixed (slot_of modes assigned (child table node 0)) ≡ x → (y : Bool) → unfixed (slot_of modes assigned (child table node 1)) ≡ y
            → (z : Bool) → unfixed (slot_of modes assigned (child table node 2)) ≡ z → PairHere modes table assigned node k ⊎ OnlyZ modes table assigned node
        go true ex y ey z ez =
            inl (pair_here (pair_without 0 (modes + 2 * k) pair.even (even_pair modes k) (unfixed_without modes assigned (child table node 0) ex)))
        go false ex true ey z ez =
            inl (pair_here (pair_without 1 (modes + 2 * k + 1) pair.odd (odd_pair modes k) (unfixed_without modes assigned (child table node 1) ey)))
        go false ex false ey true ez = inr (record { x_fixed = ex; y_fixed = ey; z_without = unfixed_without modes assigned (child table node 2) ez })
        go false ex false ey false ez = absurd (done ex ey ez)
          where
            done : unfixed (slot_of modes assigned (child table node 0)) ≡ false → unfixed (slot_of modes assigned (child table node 1)) ≡ false
                → unfixed (slot_of modes assigned (child table node 2)) ≡ false → ⊥
            done fx fy fz =
                let low = pair_children most modes table accepted (accepted_fits most modes table accepted) k node few pair in
                let e : complete modes table assigned node ≡ true =
                rw (complete, slot, low_fixed modes assigned (child table node 0) low.0, low_fixed modes assigned (child table node 1) low.1, fx, fy, fz) in
                let f = a.left in
                let z : ◌≡◌ {A = ℕ} 0 1 = cc in omega arith

  pub active_slots : (node : ℕ) → Active modes table heuristic assigned node
      → ((k : ℕ) × PairHere modes table assigned node k) ⊎ OnlyZ modes table assigned node
  active_slots node a =
      let r = each_hosts most modes table accepted node a.inside in
      ⊎_elim (λ here. inl (r.0, here)) inr (slots_here node a r.0 r.1 r.2)
