-- The answer where every pair has a mode: each node and the absent child stay where they are, and each leaf stands once.
use Rattle.std.specs.Prelude.{Ok}
use mathlib.Core.Path.{◌≡◌, refl, ap, ◌∙◌, sym}
use mathlib.Core.Bool.{Bool, true, false}
use mathlib.Core.List.{List, map}
use mathlib.Core.Logic.{⊎_elim}
use Prim.Native.Nat.{ℕ, ◌+◌, ◌-◌, ◌*◌, ◌<◌, ◌≤◌}
use native.Mathlib.Omega.{arith}
use borrow.Author.Tests.{lt-ltb, le-ltb, eq-eqb, ne_eqb, ltb-true, ltb-false}
use lib.Dec.{ltb}
use lib.ListN.{length, get_or, length-map, get_or-map}
use Rattle.lists.specs.Counting.{same, occurrences}
use Rattle.lists.proofs.Tests.{same_or_not}
use Rattle.lists.proofs.Sums.{same_one, same_none}
use Rattle.lists.proofs.Replaced.{occurrences_map}
use Rattle.lists.proofs.Occurring.{occurs_twice}
use Rattle.entities.specs.Codes.{child_code, absent}
use Rattle.tree.specs.Table.{place_of_code}
use Rattle.tree.specs.Check.{tree_checked}
use Rattle.tree.proofs.Standing.{place_within, stands_there}
use Rattle.tree.proofs.AcceptedTree.{accepted_says}
use Rattle.slots.specs.Slots.{pair_of, parity_of, slot_of, stands_as}
use Rattle.slots.proofs.SlotCases.{slot_child, slot_empty, slot_fixed, pair_below}
use Rattle.topphatt.specs.Answer.{answer_table}
use Rattle.topphatt.specs.Assignment.{AllAssigned, SameShape}

-- What the answer has in place of a code.
unfoldable pub relabelled : ℕ → List ℕ → ℕ → ℕ
relabelled modes assigned given = child_code modes (2 * modes) (stands_as modes (slot_of modes assigned given))

module _ (modes : ℕ) (table assigned : List ℕ) (all : AllAssigned modes table assigned) (fits : 3 * modes ≤ absent) where
  pub node_kept : (given : ℕ) → given < modes → relabelled modes assigned given ≡ given
  unfolding relabelled child_code stands_as
  node_kept given h =
      let e = slot_child modes assigned given h in
      let back : 2 * modes + 1 + given - (2 * modes + 1) ≡ given = omega arith in
      rw
      (e, ne_eqb (2 * modes + 1 + given) (2 * modes) (λ q. absurd (omega arith)), le-ltb (2 * modes + 1 + given) (2 * modes + 1) (omega arith), back)

  pub absent_kept : (given : ℕ) → 3 * modes ≤ given → relabelled modes assigned given ≡ absent
  unfolding relabelled child_code stands_as
  absent_kept given h = rw (slot_empty modes assigned given h, eq-eqb (2 * modes) (2 * modes) refl)

  -- The mode of a leaf's pair.
  unfoldable pub mode_of : ℕ → ℕ
  mode_of given = get_or assigned (pair_of modes given) modes

  pub mode_below : (given : ℕ) → modes ≤ given → given < 3 * modes → mode_of given < modes
  unfolding mode_of
  mode_below given low high = all.inside (pair_of modes given) (pair_below modes assigned given low high)

  pub leaf_relabelled : (given : ℕ) → modes ≤ given → given < 3 * modes → relabelled modes assigned given ≡ modes + 2 * mode_of given + parity_of modes given
  unfolding relabelled child_code stands_as mode_of parity_of
  leaf_relabelled given low high =
      let leaf = 2 * mode_of given + parity_of modes given in
      let m = mode_below given low high in
      let small : leaf < 2 * modes = omega arith in
      rw
      (slot_fixed modes assigned given low high m, ne_eqb leaf (2 * modes) (λ q. absurd (omega arith)), lt-ltb leaf (2 * modes + 1) (omega arith))
      (omega arith)

  -- A place of the answer.
  pub answer_at : (place : ℕ) → get_or (answer_table modes assigned table) place absent ≡ relabelled modes assigned (get_or table place absent)
  unfolding answer_table relabelled
  answer_at place =
      ap (get_or (map (relabelled modes assigned) table) place) (sym (absent_kept absent fits)) ∙ get_or-map (relabelled modes assigned) table place absent

  -- Two pairs have not the same mode.
  pub modes_apart : (j k : ℕ) → j < modes → k < modes → get_or assigned j modes ≡ get_or assigned k modes → j ≡ k
  modes_apart j k h l e =
      ⊎_elim (λ q. q)
      (λ other.
      absurd
      (omega (
        arith,
        all.each_once (get_or assigned k modes) (all.inside k l),
        occurs_twice (get_or assigned k modes) assigned j k modes (omega (arith, all.whole)) (omega (arith, all.whole)) other e refl,
      )))
      (same_or_not j k)

  pub pair_with : (mode : ℕ) → mode < modes → (k : ℕ) × (k < modes) × (get_or assigned k modes ≡ mode)
  pair_with mode h =
      let some : 1 ≤ occurrences mode assigned = omega (arith, all.each_once mode h) in
      (place_of_code assigned mode, omega (arith, place_within mode assigned some, all.whole), stands_there mode modes assigned some)

  -- A node's code stands in the answer as in the table, wherever it is looked for.
  pub node_same : (node given : ℕ) → node < modes → same (relabelled modes assigned given) node ≡ same given node
  node_same node given h = go (ltb given modes) refl (ltb given (3 * modes)) refl
    where
      go : (n : Bool) → ltb given modes ≡ n → (l : Bool) → ltb given (3 * modes) ≡ l → same (relabelled modes assigned given) node ≡ same given node
      go true q l r = rw (node_kept given (ltb-true given modes q))
      go false q true r =
          let low = ltb-false given modes q in
          same_none (relabelled modes assigned given) node (λ e. absurd (omega (arith, leaf_relabelled given low (ltb-true given (3 * modes) r))))
          ∙ sym (same_none given node (λ e. absurd (omega arith)))
      go false q false r =
          let low = ltb-false given modes q in
          let high = ltb-false given (3 * modes) r in
          same_none (relabelled modes assigned given) node (λ e. absurd (omega (arith, absent_kept given high)))
          ∙ sym (same_none given node (λ e. absurd (omega arith)))

  -- A leaf stands in the answer where the table has the leaf of the pair that has its mode.
  leaf_same : (sought k given : ℕ) → modes ≤ sought → sought < 3 * modes → k < modes → get_or assigned k modes ≡ pair_of modes sought
      → same (relabelled modes assigned given) sought ≡ same given (modes + 2 * k + parity_of modes sought)
  unfolding pair_of parity_of mode_of
  leaf_same sought k given low high few e = go (ltb given modes) refl (ltb given (3 * modes)) refl
    where
      from : ℕ
      from = modes + 2 * k + parity_of modes sought

      go : (n : Bool) → ltb given modes ≡ n → (l : Bool) → ltb given (3 * modes) ≡ l → same (relabelled modes assigned given) sought ≡ same given from
      go true q l r =
          let h = ltb-true given modes q in
          same_none (relabelled modes assigned given) sought (λ f. absurd (omega (arith, node_kept given h)))
          ∙ sym (same_none given from (λ f. absurd (omega arith)))
      go false q false r =
          let h = ltb-false given (3 * modes) r in
          same_none (relabelled modes assigned given) sought (λ f. absurd (omega (arith, absent_kept given h)))
          ∙ sym (same_none given from (λ f. absurd (omega arith)))
      go false q true r =
          let l = ltb-false given modes q in
          let h = ltb-true given (3 * modes) r in
          let is = leaf_relabelled given l h in
          ⊎_elim
          (λ f.
          let pair : pair_of modes given ≡ k = omega arith in
          let mode : mode_of given ≡ pair_of modes sought = ap (λ j. get_or assigned j modes) pair ∙ e in
          same_one (relabelled modes assigned given) sought (omega arith) ∙ sym (same_one given from f))
          (λ other.
          same_none (relabelled modes assigned given) sought
          (λ f.
          let mode : mode_of given ≡ get_or assigned k modes = omega arith in
          let pair : pair_of modes given ≡ k = modes_apart (pair_of modes given) k (pair_below modes assigned given l h) few mode in
          other (omega arith))
          ∙ sym (same_none given from other))
          (same_or_not given from)

  pub answer_length : length (answer_table modes assigned table) ≡ length table
  unfolding answer_table
  answer_length = length-map table (λ given. child_code modes (2 * modes) (stands_as modes (slot_of modes assigned given)))

  leaf_counts : (sought k : ℕ) → modes ≤ sought → sought < 3 * modes → k < modes → get_or assigned k modes ≡ pair_of modes sought
      → occurrences sought (answer_table modes assigned table) ≡ occurrences (modes + 2 * k + parity_of modes sought) table
  unfolding answer_table relabelled
  leaf_counts sought k low high few e =
      occurrences_map (relabelled modes assigned) sought (modes + 2 * k + parity_of modes sought) table
      (λ given m. leaf_same sought k given low high few e)

  pub node_counts : (node : ℕ) → node < modes → occurrences node (answer_table modes assigned table) ≡ occurrences node table
  unfolding answer_table relabelled
  node_counts node h = occurrences_map (relabelled modes assigned) node node table (λ given m. node_same node given h)

  module _ (most : ℕ) (accepted : tree_checked most modes table ≡ Ok tt) where
    pub answer_shape : SameShape modes table (answer_table modes assigned table)
    unfolding pair_of parity_of
    answer_shape =
        record {
          whole = answer_length;
          node_stays = λ place h low. answer_at place ∙ node_kept (get_or table place absent) low;
          absent_stays = λ place h e. answer_at place ∙ absent_kept (get_or table place absent) (omega arith);
          leaf_once =
              λ sought low high.
              let from = pair_with (pair_of modes sought) (omega arith) in
              leaf_counts sought from.0 low high from.1 from.2
              ∙ (accepted_says most modes table accepted).leaf_once (modes + 2 * from.0 + parity_of modes sought) (omega arith)
              (omega (arith, from.1));
        }
