-- Before the first round a farthest node isn't complete: under its X is no node, and no leaf is fixed. So it makes no difference that none has left the round list.
use Rattle.std.specs.Prelude.{Ok}
use mathlib.Core.Path.{◌≡◌, refl, ap, ◌∙◌}
use mathlib.Core.Bool.{Bool, true, false, cond, not}
use mathlib.Core.List.{List, [], ◌∷◌, ◌++◌, map, Memᴰ}
use Prim.Native.Nat.{ℕ, zero, suc, ◌*◌, ◌<◌, ◌≤◌}
use native.Mathlib.Omega.{arith}
use borrow.Author.Tests.{ltb-true, ltb-false, eqb-true}
use lib.Dec.{eqb, ltb}
use lib.ListN.{get_or, replicate}
use Rattle.lists.specs.Members.{keep}
use Rattle.lists.proofs.Membership.{kept, of_kept, counted, counted_below}
use Rattle.lists.proofs.Narrowing.{some_member}
use Rattle.tree.specs.Table.{nodes, child}
use Rattle.tree.specs.Check.{tree_checked}
use Rattle.tree.proofs.AcceptedParts.{accepted_parts}
use Rattle.slots.specs.Slots.{pair_of, slot, is_fixed}
use Rattle.slots.specs.Nodes.{distance, complete, remaining, largest, farthest, FirstRound}
use Rattle.slots.proofs.SlotCases.{slot_empty, edge_not_fixed}
use Rattle.slots.proofs.Distances.{deeper}
use Rattle.slots.proofs.ActiveNodes.{largest_most, largest_of}
use Rattle.slots.proofs.ActiveSlots.{x_incomplete}

-- Where what passes the second test passes the first, the first needs not be asked.
keep_through : {A : Type 0} (first second : A → Bool) (l : List A) → ((a : A) → Memᴰ a l → second a ≡ true → first a ≡ true)
    → keep second (keep first l) ≡ keep second l
unfolding keep
keep_through first second [] through = refl
keep_through {A} first second (a ∷ l) through =
    go (first a) refl (second a) refl (keep_through first second l (λ b m. through b (Memᴰ.tail m)))
  where
    go : (p : Bool) → first a ≡ p → (q : Bool) → second a ≡ q → keep second (keep first l) ≡ keep second l
        → keep second (cond p (a ∷ []) [] ++ keep first l) ≡ cond q (a ∷ []) [] ++ keep second l
    go true e true f on = rw f (ap (λ m. a ∷ m) on)
    go true e false f on = rw f on
    go false e true f on = let t = through a (Memᴰ.head refl) f in let z : ◌≡◌ {A = ℕ} 0 1 = cc in absurd (omega arith)
    go false e false f on = on

-- No pair has a mode.
none_assigned : (count i mode : ℕ) → get_or (replicate count mode) i mode ≡ mode
none_assigned zero i mode = refl
none_assigned (suc count) zero mode = refl
none_assigned (suc count) (suc i) mode = none_assigned count i mode

module _ (most modes : ℕ) (table : List ℕ) (accepted : tree_checked most modes table ≡ Ok tt) where
  -- A node under whose X is no node.
  leaf_incomplete : (node : ℕ) → modes ≤ child table node 0 → complete modes table (replicate modes modes) node ≡ false
  unfolding slot is_fixed
  leaf_incomplete node up =
      x_incomplete modes table (replicate modes modes) node (go (ltb (child table node 0) (3 * modes)) refl)
    where
      go : (b : Bool) → ltb (child table node 0) (3 * modes) ≡ b → is_fixed (slot modes table (replicate modes modes) node 0) ≡ false
      go true q =
          let low = ltb-true (child table node 0) (3 * modes) q in
          let none = none_assigned modes (pair_of modes (child table node 0)) modes in
          edge_not_fixed modes table (replicate modes modes) node 0 (record { low = up; high = low; none = omega arith })
      go false q = rw (slot_empty modes (replicate modes modes) (child table node 0) (ltb-false (child table node 0) (3 * modes) q))

  farthest_incomplete : (node : ℕ) → node < modes → distance table modes node ≡ largest (map (distance table modes) (nodes modes))
      → complete modes table (replicate modes modes) node ≡ false
  unfolding nodes
  farthest_incomplete node h far = go (ltb (child table node 0) modes) refl
    where
      go : (b : Bool) → ltb (child table node 0) modes ≡ b → complete modes table (replicate modes modes) node ≡ false
      go false q = leaf_incomplete node (ltb-false (child table node 0) modes q)
      go true q =
          let low = ltb-true (child table node 0) modes q in
          absurd
          (omega (
            arith,
            far,
            deeper most modes table accepted node 0 h (omega arith) low,
            largest_most (distance table modes) (nodes modes) (child table node 0) (counted (child table node 0) 0 modes (omega arith) (omega arith)),
          ))

  -- The incomplete nodes reach as far as all do.
  as_far : largest (map (distance table modes) (remaining modes table (replicate modes modes))) ≡ largest (map (distance table modes) (nodes modes))
  unfolding remaining nodes
  as_far =
      let far = distance table modes in
      let first = replicate modes modes in
      let left = remaining modes table first in
      let all = largest_of far (nodes modes) (some_member (counted 0 0 modes (omega arith) (omega (arith, (accepted_parts most modes table accepted).some)))) in
      let stays = kept (λ node. not (complete modes table first node)) (nodes modes)
      (rw (farthest_incomplete all.0 (omega (arith, counted_below all.0 0 modes all.1)) all.2)) all.1 in
      let some = largest_of far left (some_member stays) in
      omega (
        arith,
        all.2,
        some.2,
        largest_most far left all.0 stays,
        largest_most far (nodes modes) some.0 (of_kept (λ node. not (complete modes table first node)) (nodes modes) some.1).0,
      )

pub first_round : FirstRound
unfolding farthest remaining nodes
first_round most modes table accepted =
    ap (λ far. keep (λ node. eqb (distance table modes node) far) (remaining modes table (replicate modes modes))) (as_far most modes table accepted)
    ∙ keep_through (λ node. not (complete modes table (replicate modes modes) node)) _ (nodes modes)
    (λ node m e.
    rw (farthest_incomplete most modes table accepted node (omega (arith, counted_below node 0 modes m)) (eqb-true (distance table modes node) _ e)))
