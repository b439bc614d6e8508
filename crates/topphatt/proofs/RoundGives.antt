-- On an accepted tree each choice of a round gives modes to pairs that had none: the pair under X and Y one, the pair of a Z leaf another.
use Rattle.std.specs.Prelude.{Ok}
use mathlib.Core.Path.{◌≡◌, refl, ap, ◌∙◌, sym}
use mathlib.Core.Bool.{Bool, true, false}
use mathlib.Core.List.{List, Memᴰ}
use mathlib.Core.Logic.{⊎_elim}
use Prim.Native.Nat.{ℕ, ◌/◌, ◌<◌}
use native.Mathlib.Omega.{arith}
use lib.ListN.{get_or, set}
use lib.Seq.{get_or-set_same, get_or-set_other}
use Rattle.lists.specs.Counting.{occurrences}
use Rattle.lists.proofs.Occurring.{none_occurs}
use Rattle.entities.specs.declared.Triple.{Triple}
use Rattle.tree.specs.Table.{child}
use Rattle.tree.specs.Check.{tree_checked}
use Rattle.slots.specs.Slots.{pair_of, slot_of, slot, unfixed, leaf_of}
use Rattle.slots.specs.Nodes.{active}
use Rattle.slots.proofs.ActiveNodes.{of_active}
use Rattle.slots.proofs.SlotCases.{Without, without_leaf, parity_most, without_unfixed, fixed_not_unfixed, pair_below, even_pair, odd_pair, even_without, edge_unfixed, edge_without}
use Rattle.slots.proofs.ActiveSlots.{PairHere, OnlyZ, active_slots, here_unfixed}
use Rattle.choice.specs.Choices.{unassigned, without, numbers, choices_at}
use Rattle.choice.specs.Choice.{Choice, candidates}
use Rattle.choice.proofs.NumberBounds.{of_unassigned, of_without, of_numbers, Pairwise, Singly, of_choices}
use Rattle.choice.proofs.ChosenRight.{of_candidates}
use Rattle.topphatt.specs.Rounds.{fixed, fixed_by}
use Rattle.topphatt.specs.Assignment.{Fair, Given}
use Rattle.topphatt.proofs.FairCounts.{given, given_twice, others_stay}
use Rattle.topphatt.proofs.FixedSteps.{fixed_not, fixed_set}

-- The leaf that an unfixed slot takes of a mode is one of the mode's two.
leaf_mode : (modes : ℕ) (assigned : List ℕ) (code mode : ℕ) → Without modes assigned code → leaf_of (slot_of modes assigned code) mode / 2 ≡ mode
leaf_mode modes assigned code mode w = omega (arith, without_leaf modes assigned code w mode, parity_most modes assigned code)

module _ (modes : ℕ) (table : List ℕ) (node : ℕ) where
  -- A Z leaf without a mode is given one that no pair has.
  z_given : (assigned : List ℕ) (number mode : ℕ) → Fair modes assigned → Without modes assigned (child table node 2) → number / 2 ≡ mode → mode < modes
      → occurrences mode assigned ≡ 0 → Given modes assigned (fixed modes table node 2 number assigned)
  z_given assigned number mode fair w half low new =
      rw (fixed_set modes table node 2 number assigned (edge_unfixed modes table assigned node 2 w), half)
      (given modes assigned fair (pair_of modes (child table node 2)) mode (pair_below modes assigned (child table node 2) w.low w.high) w.none low new)

  module _ (assigned : List ℕ) (fair : Fair modes assigned) where
    free_new : {mode : ℕ} → Memᴰ mode (unassigned modes assigned) → (mode < modes) × (occurrences mode assigned ≡ 0)
    free_new {mode} m = let r = of_unassigned modes assigned m in (r.0, none_occurs mode assigned r.1)

    -- Only Z is unfixed.
    single_gives : (triple : Triple) → OnlyZ modes table assigned node → Memᴰ triple.z (numbers modes (slot modes table assigned node 2) (unassigned modes assigned))
        → Given modes assigned (fixed_by modes table (record { node = node; triple = triple }) assigned)
    unfolding fixed_by slot
    single_gives triple only m =
        rw (fixed_not modes table node 0 triple.x assigned only.x_fixed, fixed_not modes table node 1 triple.y assigned only.y_fixed)
        (⊎_elim
        (λ leaf.
        let new = free_new leaf.1.1 in
        z_given assigned triple.z leaf.1.0 fair only.z_without
        (ap (λ v. v / 2) leaf.1.2 ∙ leaf_mode modes assigned (child table node 2) leaf.1.0 only.z_without) new.0 new.1)
        (λ same.
        let e = without_unfixed modes assigned (child table node 2) only.z_without in
        let f = same.0 in
        let z : ◌≡◌ {A = ℕ} 0 1 = cc in
        absurd (omega arith))
        (of_numbers modes (slot_of modes assigned (child table node 2)) (unassigned modes assigned) m))

    -- X and Y are a pair without a mode.
    module _ (k mode : ℕ) (here : PairHere modes table assigned node k) (member : Memᴰ mode (unassigned modes assigned)) where
      paired : List ℕ
      paired = set assigned k mode

      first_given : Given modes assigned paired
      unfolding paired
      first_given = let new = free_new member in given modes assigned fair k mode here.inside here.none new.0 new.1

      mode_now : get_or paired k modes ≡ mode
      unfolding paired
      mode_now = get_or-set_same assigned k mode modes (omega (arith, fair.whole, here.inside))

      x_sets : fixed modes table node 0 (leaf_of (slot modes table assigned node 0) mode) assigned ≡ paired
      unfolding paired slot
      x_sets =
          let w : Without modes assigned (child table node 0) = rw here.x_is (even_without modes k assigned here.inside here.none) in
          let pair : pair_of modes (child table node 0) ≡ k = ap (pair_of modes) here.x_is ∙ even_pair modes k in
          fixed_set modes table node 0 (leaf_of (slot_of modes assigned (child table node 0)) mode) assigned (edge_unfixed modes table assigned node 0 w)
          ∙ rw (pair, leaf_mode modes assigned (child table node 0) mode w)

      y_stays : (number : ℕ) → fixed modes table node 1 number paired ≡ paired
      unfolding slot
      y_stays number =
          let pair : pair_of modes (child table node 1) ≡ k = ap (pair_of modes) here.y_is ∙ odd_pair modes k in
          let has : get_or paired (pair_of modes (child table node 1)) modes < modes = rw pair (omega (arith, mode_now, (free_new member).0)) in
          fixed_not modes table node 1 number paired
          (fixed_not_unfixed modes paired (child table node 1) (omega (arith, here.y_is)) (omega (arith, here.y_is, here.inside)) has)

      -- A Z leaf that has no mode now had none before: it isn't of the pair.
      z_before : Without modes paired (child table node 2) → Without modes assigned (child table node 2)
      unfolding paired
      z_before w =
          let other : pair_of modes (child table node 2) ≡ k → ⊥ =
          λ e. absurd (omega (arith, w.none, ap (λ j. get_or paired j modes) e, mode_now, (free_new member).0)) in
          record {
            low = w.low;
            high = w.high;
            none = rw (get_or-set_other assigned k (pair_of modes (child table node 2)) mode modes other) at w.none;
          }

      z_half : Without modes assigned (child table node 2) → (other : ℕ) → leaf_of (slot modes table assigned node 2) other / 2 ≡ other
      unfolding slot
      z_half v other = leaf_mode modes assigned (child table node 2) other v

      z_new : (other : ℕ) → other < modes → (other ≡ mode → ⊥) → occurrences other paired ≡ occurrences other assigned
      unfolding paired
      z_new other low apart =
          let new = free_new member in
          others_stay modes assigned fair k mode here.inside here.none new.0 new.1 other low apart

      z_gives : (number : ℕ) → Memᴰ number (numbers modes (slot modes table assigned node 2) (without mode (unassigned modes assigned)))
          → (b : Bool) → unfixed (slot modes table paired node 2) ≡ b → Given modes assigned (fixed modes table node 2 number paired)
      z_gives number m false q = rw (fixed_not modes table node 2 number paired q) first_given
      z_gives number m true q =
          let w : Without modes paired (child table node 2) = edge_without modes table paired node 2 q in
          let v = z_before w in
          ⊎_elim
          (λ leaf.
          let from = of_without modes mode (unassigned modes assigned) leaf.1.1 in
          let new = free_new from.0 in
          given_twice modes assigned paired (fixed modes table node 2 number paired) first_given
          (z_given paired number leaf.1.0 first_given.fair w (ap (λ u. u / 2) leaf.1.2 ∙ z_half v leaf.1.0) new.0
          (z_new leaf.1.0 new.0 from.1 ∙ new.1)))
          (λ same.
          let e = edge_unfixed modes table assigned node 2 v in
          let f = same.0 in
          let z : ◌≡◌ {A = ℕ} 0 1 = cc in
          absurd (omega arith))
          (of_numbers modes (slot modes table assigned node 2) (without mode (unassigned modes assigned)) m)

      pair_gives : (triple : Triple) → triple.x ≡ leaf_of (slot modes table assigned node 0) mode
          → Memᴰ triple.z (numbers modes (slot modes table assigned node 2) (without mode (unassigned modes assigned)))
          → Given modes assigned (fixed_by modes table (record { node = node; triple = triple }) assigned)
      unfolding fixed_by
      pair_gives triple x_is m =
          rw (x_is, x_sets, y_stays triple.y) (z_gives triple.z m (unfixed (slot modes table paired node 2)) refl)

module _ (most modes : ℕ) (table : List ℕ) (accepted : tree_checked most modes table ≡ Ok tt)
    (heuristic : ℕ) (assigned : List ℕ) (fair : Fair modes assigned) where
  -- Of an active node's X and Y slots both are unfixed or neither is.
  pub slots_together : (node : ℕ) → Memᴰ node (active modes table heuristic assigned)
      → unfixed (slot modes table assigned node 0) ≡ unfixed (slot modes table assigned node 1)
  slots_together node m =
      ⊎_elim
      (λ (here : (k : ℕ) × PairHere modes table assigned node k).
      let both = here_unfixed modes table assigned node here.0 here.1 in both.0 ∙ sym both.1)
      (λ (only : OnlyZ modes table assigned node). only.x_fixed ∙ sym only.y_fixed)
      (active_slots most modes table accepted heuristic assigned node (of_active modes table heuristic assigned m))

  pub choice_gives : (choice : Choice) → Memᴰ choice (candidates modes table heuristic assigned)
      → Given modes assigned (fixed_by modes table choice assigned)
  unfolding choices_at
  choice_gives choice m =
      let from = of_candidates modes table heuristic assigned m in
      let node = choice.node in
      let x = slot modes table assigned node 0 in
      let y = slot modes table assigned node 1 in
      let z = slot modes table assigned node 2 in
      let free = unassigned modes assigned in
      ⊎_elim
      (λ (here : (k : ℕ) × PairHere modes table assigned node k).
      ⊎_elim
      (λ (c : Pairwise modes free x y z choice.triple).
      pair_gives modes table node assigned fair here.0 c.mode here.1 c.member choice.triple c.x_is c.z_is)
      (λ (c : Singly modes free x y z choice.triple).
      let both = here_unfixed modes table assigned node here.0 here.1 in
      let f = rw (both.0, both.1) at c.not_both in
      let z : ◌≡◌ {A = ℕ} 0 1 = cc in
      absurd (omega arith))
      (of_choices modes free x y z from.1))
      (λ (only : OnlyZ modes table assigned node).
      ⊎_elim
      (λ (c : Pairwise modes free x y z choice.triple).
      let e = c.x_unfixed in
      let f = only.x_fixed in
      let z : ◌≡◌ {A = ℕ} 0 1 = cc in
      absurd (omega arith))
      (λ (c : Singly modes free x y z choice.triple). single_gives modes table node assigned fair choice.triple only c.z_is)
      (of_choices modes free x y z from.1))
      (active_slots most modes table accepted heuristic assigned node (of_active modes table heuristic assigned from.0))
