-- While a mode is unassigned a round has a choice: some node remains, and an active node has choices. Where its X, Y and Z are all unfixed
-- two pairs have no mode, so two modes are unassigned.
use Rattle.std.specs.Prelude.{Ok}
use mathlib.Core.Path.{◌≡◌, refl, ◌∙◌, sym}
use mathlib.Core.Bool.{Bool, true, false, not}
use mathlib.Core.List.Memᴰ
use mathlib.Core.List.{List, [], ◌∷◌, map, Memᴰ}
use mathlib.Core.Logic.{⊎_elim}
use Prim.Native.Nat.{ℕ, ◌+◌, ◌*◌, ◌<◌, ◌≤◌}
use native.Mathlib.Omega.{arith}
use borrow.Author.Tests.{ltb-true, ltb-false, ne_eqb}
use lib.Dec.{eqb, ltb}
use lib.ListN.{length}
use Rattle.lists.proofs.Tests.{same_or_not}
use Rattle.lists.proofs.Membership.{kept, joined}
use Rattle.lists.specs.Ordered.{Ascending}
use Rattle.lists.proofs.Ordered.{counted_ascends, kept_ascends}
use Rattle.lists.proofs.Narrowing.{some_member, member_of_some}
use Rattle.tree.specs.Table.{child}
use Rattle.tree.specs.Pairs.{chain_end}
use Rattle.tree.specs.Check.{tree_checked}
use Rattle.tree.proofs.TableSteps.{chain_rests}
use Rattle.tree.proofs.EachHosts.{host, host_pair, child_apart}
use Rattle.slots.specs.Slots.{Slot, pair_of, slot, unfixed, leaf_of, stands_as}
use Rattle.slots.specs.Nodes.{active, complete}
use Rattle.slots.proofs.ActiveNodes.{Active, of_active, some_active}
use Rattle.slots.proofs.SlotCases.{Without, pair_below, even_without, edge_unfixed, edge_not_fixed, edge_without}
use Rattle.slots.proofs.Distances.{chain_holder}
use Rattle.slots.proofs.ActiveSlots.{PairHere, OnlyZ, active_slots, here_unfixed, z_incomplete, x_incomplete}
use Rattle.choice.specs.Choices.{unassigned, without, numbers, with_z, choices, choices_at}
use Rattle.choice.specs.Choice.{candidates}
use Rattle.topphatt.specs.Assignment.{Fair}
use Rattle.topphatt.proofs.FairCounts.{pair_without, two_left}

module _ (modes : ℕ) where
  -- A slot has a number where it isn't unfixed, and where a mode is free.
  fixed_number : (slot : Slot) (free : List ℕ) → unfixed slot ≡ false → Memᴰ (stands_as modes slot) (numbers modes slot free)
  unfolding numbers
  fixed_number slot free e = rw e (Memᴰ.head refl)

  free_number : (slot : Slot) (mode : ℕ) (free : List ℕ) → unfixed slot ≡ true → Memᴰ mode free → Memᴰ (leaf_of slot mode) (numbers modes slot free)
  unfolding numbers
  free_number slot mode free e m = rw e (Memᴰ.map (leaf_of slot) m)

  pair_choice : (free : List ℕ) (x y z : Slot) (mode number : ℕ) → unfixed x ≡ true → unfixed y ≡ true → Memᴰ mode free
      → Memᴰ number (numbers modes z (without mode free)) → 0 < length (choices modes free x y z)
  unfolding choices with_z
  pair_choice free x y z mode number ex ey m n =
      rw (ex, ey)
      (some_member
      (joined (λ v. with_z (leaf_of x v) (leaf_of y v) (numbers modes z (without v free))) free m
      (Memᴰ.map (λ v. record { x = leaf_of x mode; y = leaf_of y mode; z = v }) n)))

  single_choice : (free : List ℕ) (x y z : Slot) (number : ℕ) → unfixed x ≡ false → Memᴰ number (numbers modes z free)
      → 0 < length (choices modes free x y z)
  unfolding choices with_z
  single_choice free x y z number ex n = rw ex (some_member (Memᴰ.map (λ v. record { x = stands_as modes x; y = stands_as modes y; z = v }) n))

  -- Of two free modes the second is left when the first is taken.
  second_left : (free : List ℕ) → Ascending ◌<◌ free → 2 ≤ length free → (mode : ℕ) × (other : ℕ) × Memᴰ mode free × Memᴰ other (without mode free)
  unfolding without
  second_left [] up h = absurd (omega arith)
  second_left (a ∷ []) up h = absurd (omega arith)
  second_left (a ∷ (b ∷ l)) up h =
      let apart : b ≡ a → ⊥ = λ e. absurd (omega (arith, up.0 b (Memᴰ.head refl))) in
      (a, b, Memᴰ.head refl, kept (λ other. not (eqb other a)) (a ∷ (b ∷ l)) (rw (ne_eqb b a apart)) (Memᴰ.tail (Memᴰ.head refl)))

  free_ascends : (assigned : List ℕ) → Ascending ◌<◌ (unassigned modes assigned)
  unfolding unassigned
  free_ascends assigned = kept_ascends ◌<◌ _ _ (counted_ascends 0 modes)

module _ (most modes : ℕ) (table : List ℕ) (accepted : tree_checked most modes table ≡ Ok tt) where
  -- Z is no leaf of the pair under X and Y.
  pub z_apart : (node k : ℕ) (assigned : List ℕ) → node < modes → PairHere modes table assigned node k → Without modes assigned (child table node 2)
      → pair_of modes (child table node 2) ≡ k → ⊥
  unfolding pair_of
  z_apart node k assigned h p w e =
      ⊎_elim
      (λ q. absurd (omega (arith, child_apart most modes table accepted node 2 node 0 h (omega arith) h (omega arith) (q ∙ sym p.x_is))))
      (λ q.
      let odd : child table node 2 ≡ modes + 2 * k + 1 = omega (arith, w.low) in
      absurd (omega (arith, child_apart most modes table accepted node 2 node 1 h (omega arith) h (omega arith) (odd ∙ sym p.y_is))))
      (same_or_not (child table node 2) (modes + 2 * k))

  module _ (heuristic : ℕ) (assigned : List ℕ) (fair : Fair modes assigned) (left : 0 < length (unassigned modes assigned)) where
    -- A pair without a mode has a leaf under X of its node, or under Z of a node.
    some_incomplete : (node : ℕ) × (node < modes) × (complete modes table assigned node ≡ false)
    some_incomplete =
        let r = pair_without modes assigned fair left in
        let k = r.0 in
        let pair = host_pair most modes table accepted k r.1 in
        go k (even_without modes k assigned r.1 (omega (arith, r.2))) (host modes table k) pair.inside pair.even (ltb (child table (host modes table k) 0) modes) refl
      where
        go : (k : ℕ) → Without modes assigned (modes + 2 * k) → (node : ℕ) → node < modes
            → chain_end modes table modes (child table node 0) ≡ modes + 2 * k
            → (b : Bool) → ltb (child table node 0) modes ≡ b
            → (other : ℕ) × (other < modes) × (complete modes table assigned other ≡ false)
        go k w node h e true q =
            let r = chain_holder most modes table accepted modes (child table node 0) (modes + 2 * k) (ltb-true (child table node 0) modes q) e w.low in
            (r.holder, r.inside, z_incomplete modes table assigned r.holder (rw r.holds w))
        go k w node h e false q =
            let x_is : child table node 0 ≡ modes + 2 * k =
            sym (chain_rests modes table modes (child table node 0) (ltb-false (child table node 0) modes q)) ∙ e in
            (node, h, x_incomplete modes table assigned node (edge_not_fixed modes table assigned node 0 (rw x_is w)))

    module _ (node : ℕ) (a : Active modes table heuristic assigned node) where
      choices_paired : (k : ℕ) → PairHere modes table assigned node k → (b : Bool) → unfixed (slot modes table assigned node 2) ≡ b
          → 0 < length
          (choices modes (unassigned modes assigned) (slot modes table assigned node 0) (slot modes table assigned node 1) (slot modes table assigned node 2))
      choices_paired k here true q =
          let z = slot modes table assigned node 2 in
          let free = unassigned modes assigned in
          let both = here_unfixed modes table assigned node k here in
          let w = edge_without modes table assigned node 2 q in
          let two = two_left modes assigned fair (pair_of modes (child table node 2)) k (pair_below modes assigned (child table node 2) w.low w.high) here.inside
          (z_apart node k assigned a.inside here w) w.none here.none in
          let r = second_left modes free (free_ascends modes assigned) two in
          pair_choice modes free (slot modes table assigned node 0) (slot modes table assigned node 1) z r.0 (leaf_of z r.1) both.0 both.1 r.2
          (free_number modes z r.1 (without r.0 free) q r.3)
      choices_paired k here false q =
          let z = slot modes table assigned node 2 in
          let free = unassigned modes assigned in
          let both = here_unfixed modes table assigned node k here in
          let first = member_of_some free left in
          pair_choice modes free (slot modes table assigned node 0) (slot modes table assigned node 1) z first.0 (stands_as modes z) both.0 both.1 first.1
          (fixed_number modes z (without first.0 free) q)

      choices_there : 0 < length (choices_at modes table assigned node)
      unfolding choices_at
      choices_there =
          let free = unassigned modes assigned in
          let z = slot modes table assigned node 2 in
          let first = member_of_some free left in
          ⊎_elim
          (λ (here : (k : ℕ) × PairHere modes table assigned node k). choices_paired here.0 here.1 (unfixed z) refl)
          (λ (only : OnlyZ modes table assigned node).
          single_choice modes free (slot modes table assigned node 0) (slot modes table assigned node 1) z (leaf_of z first.0) only.x_fixed
          (free_number modes z first.0 free (edge_unfixed modes table assigned node 2 only.z_without) first.1))
          (active_slots most modes table accepted heuristic assigned node a)

    pub some_choice : 0 < length (candidates modes table heuristic assigned)
    unfolding candidates
    some_choice =
        let v = some_incomplete in
        let first = member_of_some (active modes table heuristic assigned)
        (some_active modes table heuristic assigned v.0 v.1 v.2) in
        let triple = member_of_some (choices_at modes table assigned first.0)
        (choices_there first.0 (of_active modes table heuristic assigned first.1)) in
        some_member
        (joined (λ node. map (λ triple. record { node = node; triple = triple }) (choices_at modes table assigned node))
        (active modes table heuristic assigned) first.1 (Memᴰ.map (λ triple. record { node = first.0; triple = triple }) triple.1))
