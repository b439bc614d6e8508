-- The node of a round's choice is complete after the round: fixing a slot fixes it, and unfixes no other.
use Rattle.std.specs.Prelude.{Ok}
use mathlib.Core.Path.{◌≡◌, refl, ap, ◌∙◌, sym}
use mathlib.Core.Bool.{Bool, true, false, cond, true≢false}
use mathlib.Core.List.{List, Memᴰ}
use mathlib.Core.Logic.{⊎_elim}
use Prim.Native.Nat.{ℕ, ◌/◌, ◌<◌}
use native.Mathlib.Omega.{arith}
use lib.ListN.{length, get_or, set, length-set}
use lib.Seq.{get_or-set_same, get_or-set_other}
use Rattle.lists.proofs.Tests.{not_so}
use Rattle.tree.specs.Table.{child}
use Rattle.tree.specs.Check.{tree_checked}
use Rattle.tree.proofs.EachHosts.{each_hosts, pair_children}
use Rattle.slots.specs.Slots.{pair_of, slot_of, slot, unfixed, leaf_of}
use Rattle.slots.specs.Nodes.{complete}
use Rattle.slots.proofs.SlotNumbers.{leaf_most}
use Rattle.slots.proofs.AcceptedFits.{accepted_fits}
use Rattle.slots.proofs.ActiveNodes.{of_active}
use Rattle.slots.proofs.SlotCases.{Without, without_unfixed, unfixed_without, pair_below, low_fixed}
use Rattle.choice.specs.Choices.{unassigned, without, numbers, choices_at}
use Rattle.choice.specs.Choice.{Choice, candidates}
use Rattle.choice.proofs.NumberBounds.{of_unassigned, of_without, of_numbers, Pairwise, Singly, of_choices}
use Rattle.choice.proofs.ChosenRight.{of_candidates}
use Rattle.topphatt.specs.Rounds.{fixed, fixed_by}
use Rattle.topphatt.specs.Assignment.{Fair}
use Rattle.topphatt.proofs.RoundGives.{slots_together}

module _ (modes : ℕ) (assigned : List ℕ) (whole : length assigned ≡ modes) (k mode : ℕ) (low : mode < modes) (code : ℕ) where
  -- Where the leaf's pair has no mode after pair k is given one, it is another pair and had none before.
  had_none : Without modes (set assigned k mode) code → (pair_of modes code ≡ k → ⊥) × Without modes assigned code
  had_none w =
      let inside = pair_below modes assigned code w.low w.high in
      let other : pair_of modes code ≡ k → ⊥ =
      λ e. absurd (omega (arith, w.none, ap (λ j. get_or (set assigned k mode) j modes) e, get_or-set_same assigned k mode modes (omega arith))) in
      (other, record { low = w.low; high = w.high; none = rw (get_or-set_other assigned k (pair_of modes code) mode modes other) at w.none })

  unfixes_none : unfixed (slot_of modes assigned code) ≡ false → unfixed (slot_of modes (set assigned k mode) code) ≡ false
  unfixes_none e =
      not_so (unfixed (slot_of modes (set assigned k mode) code))
      (λ f. true≢false (sym (without_unfixed modes assigned code (had_none (unfixed_without modes (set assigned k mode) code f)).1) ∙ e))

  fixes_own : pair_of modes code ≡ k → unfixed (slot_of modes (set assigned k mode) code) ≡ false
  fixes_own e =
      not_so (unfixed (slot_of modes (set assigned k mode) code)) (λ f. (had_none (unfixed_without modes (set assigned k mode) code f)).0 e)

-- Fixing a slot of a node, with a number of a mode where it is unfixed.
module _ (modes : ℕ) (table : List ℕ) (node edge number : ℕ) (assigned : List ℕ) (whole : length assigned ≡ modes)
    (good : unfixed (slot modes table assigned node edge) ≡ true → number / 2 < modes) where
  fixed_long : length (fixed modes table node edge number assigned) ≡ modes
  unfolding fixed
  fixed_long = go (unfixed (slot modes table assigned node edge))
    where
      go : (b : Bool) → length {A = ℕ} (cond b (set assigned (pair_of modes (child table node edge)) (number / 2)) assigned) ≡ modes
      go true = length-set assigned (pair_of modes (child table node edge)) (number / 2) ∙ whole
      go false = whole

  fixed_fixes : unfixed (slot modes table (fixed modes table node edge number assigned) node edge) ≡ false
  unfolding fixed slot
  fixed_fixes = go (unfixed (slot_of modes assigned (child table node edge))) refl
    where
      go : (b : Bool) → unfixed (slot_of modes assigned (child table node edge)) ≡ b
          → unfixed (slot_of modes (cond b (set assigned (pair_of modes (child table node edge)) (number / 2)) assigned) (child table node edge)) ≡ false
      go true q = fixes_own modes assigned whole (pair_of modes (child table node edge)) (number / 2) (good q) (child table node edge) refl
      go false q = q

  fixed_keeps : (other : ℕ) → unfixed (slot modes table assigned node other) ≡ false
      → unfixed (slot modes table (fixed modes table node edge number assigned) node other) ≡ false
  unfolding fixed slot
  fixed_keeps other e = go (unfixed (slot_of modes assigned (child table node edge))) refl
    where
      go : (b : Bool) → unfixed (slot_of modes assigned (child table node edge)) ≡ b
          → unfixed (slot_of modes (cond b (set assigned (pair_of modes (child table node edge)) (number / 2)) assigned) (child table node other)) ≡ false
      go true q = unfixes_none modes assigned whole (pair_of modes (child table node edge)) (number / 2) (good q) (child table node other) e
      go false q = e

  -- An unfixed slot was unfixed before.
  fixed_from : (other : ℕ) → unfixed (slot modes table (fixed modes table node edge number assigned) node other) ≡ true
      → unfixed (slot modes table assigned node other) ≡ true
  fixed_from other e = go (unfixed (slot modes table assigned node other)) refl
    where
      go : (b : Bool) → unfixed (slot modes table assigned node other) ≡ b → unfixed (slot modes table assigned node other) ≡ true
      go true q = q
      go false q = absurd (true≢false (sym e ∙ fixed_keeps other q))

-- Numbers of a choice: each is of a mode where its slot is unfixed.
module _ (modes : ℕ) (table assigned : List ℕ) (whole : length assigned ≡ modes) (choice : Choice)
    (good_x : unfixed (slot modes table assigned choice.node 0) ≡ true → choice.triple.x / 2 < modes)
    (good_y : unfixed (slot modes table assigned choice.node 1) ≡ true → choice.triple.y / 2 < modes)
    (good_z : unfixed (slot modes table assigned choice.node 2) ≡ true → choice.triple.z / 2 < modes) where
  none_unfixed : (unfixed (slot modes table (fixed_by modes table choice assigned) choice.node 0) ≡ false)
      × (unfixed (slot modes table (fixed_by modes table choice assigned) choice.node 1) ≡ false)
      × (unfixed (slot modes table (fixed_by modes table choice assigned) choice.node 2) ≡ false)
  unfolding fixed_by
  none_unfixed =
      let node = choice.node in
      let x = choice.triple.x in
      let y = choice.triple.y in
      let z = choice.triple.z in
      let first = fixed modes table node 0 x assigned in
      let long = fixed_long modes table node 0 x assigned whole good_x in
      let second = fixed modes table node 1 y first in
      let good_y2 : unfixed (slot modes table first node 1) ≡ true → y / 2 < modes =
      λ e. good_y (fixed_from modes table node 0 x assigned whole good_x 1 e) in
      let longer = fixed_long modes table node 1 y first long good_y2 in
      let good_z2 : unfixed (slot modes table second node 2) ≡ true → z / 2 < modes =
      λ e. good_z (fixed_from modes table node 0 x assigned whole good_x 2 (fixed_from modes table node 1 y first long good_y2 2 e)) in (
        fixed_keeps modes table node 2 z second longer good_z2 0
            (fixed_keeps modes table node 1 y first long good_y2 0 (fixed_fixes modes table node 0 x assigned whole good_x)),
        fixed_keeps modes table node 2 z second longer good_z2 1 (fixed_fixes modes table node 1 y first long good_y2),
        fixed_fixes modes table node 2 z second longer good_z2,
      )

module _ (most modes : ℕ) (table : List ℕ) (accepted : tree_checked most modes table ≡ Ok tt)
    (heuristic : ℕ) (assigned : List ℕ) (fair : Fair modes assigned)
    (choice : Choice) (member : Memᴰ choice (candidates modes table heuristic assigned)) where
  free_half : (code mode : ℕ) → Memᴰ mode (unassigned modes assigned) → leaf_of (slot_of modes assigned code) mode / 2 < modes
  free_half code mode m =
      omega (arith, leaf_most modes (slot_of modes assigned code) mode (of_unassigned modes assigned m).0)

  number_half : (code number : ℕ) (free : List ℕ) → ((mode : ℕ) → Memᴰ mode free → Memᴰ mode (unassigned modes assigned))
      → Memᴰ number (numbers modes (slot_of modes assigned code) free) → unfixed (slot_of modes assigned code) ≡ true → number / 2 < modes
  number_half code number free from m e =
      ⊎_elim
      (λ leaf. rw leaf.1.2 (free_half code leaf.1.0 (from leaf.1.0 leaf.1.1)))
      (λ same. absurd (true≢false (sym e ∙ same.0)))
      (of_numbers modes (slot_of modes assigned code) free m)

  all_fixed : (unfixed (slot modes table (fixed_by modes table choice assigned) choice.node 0) ≡ false)
      × (unfixed (slot modes table (fixed_by modes table choice assigned) choice.node 1) ≡ false)
      × (unfixed (slot modes table (fixed_by modes table choice assigned) choice.node 2) ≡ false)
  unfolding slot choices_at
  all_fixed =
      let from = of_candidates modes table heuristic assigned member in
      let node = choice.node in
      let free = unassigned modes assigned in
      let x = slot_of modes assigned (child table node 0) in
      let y = slot_of modes assigned (child table node 1) in
      let z = slot_of modes assigned (child table node 2) in
      let together : unfixed x ≡ unfixed y =
      slots_together most modes table accepted heuristic assigned fair node from.0 in
      ⊎_elim
      (λ (c : Pairwise modes free x y z choice.triple).
      none_unfixed modes table assigned fair.whole choice
      (λ e. rw c.x_is (free_half (child table node 0) c.mode c.member))
      (λ e. rw c.y_is (free_half (child table node 1) c.mode c.member))
      (number_half (child table node 2) choice.triple.z (without c.mode free) (λ mode m. (of_without modes c.mode free m).0) c.z_is))
      (λ (c : Singly modes free x y z choice.triple).
      let both : unfixed x ≡ true → ⊥ = λ e. true≢false (rw (e, sym together ∙ e) at c.not_both) in
      none_unfixed modes table assigned fair.whole choice
      (λ e. absurd (both e))
      (λ e. absurd (both (together ∙ e)))
      (number_half (child table node 2) choice.triple.z free (λ mode m. m) c.z_is))
      (of_choices modes free x y z from.1)

  pub chosen_complete : complete modes table (fixed_by modes table choice assigned) choice.node ≡ true
  unfolding complete slot
  chosen_complete =
      let from = of_candidates modes table heuristic assigned member in
      let node = choice.node in
      let now = fixed_by modes table choice assigned in
      let host = each_hosts most modes table accepted node (of_active modes table heuristic assigned from.0).inside in
      let low = pair_children most modes table accepted (accepted_fits most modes table accepted) host.0 node host.1 host.2 in
      let done = all_fixed in
      rw (low_fixed modes now (child table node 0) low.0, low_fixed modes now (child table node 1) low.1, done.0, done.1, done.2)
