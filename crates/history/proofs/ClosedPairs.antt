-- Each pair of leaves 2k and 2k+1 is held open until one merge closes it; after n merges each pair has that merge.
use mathlib.Core.Path.{◌≡◌, refl, ap, ◌∙◌, sym}
use mathlib.Core.List.{List, [], ◌∷◌}
use mathlib.Core.Logic.{◌⊎◌, inl, inr, ⊎_elim}
use Prim.Native.Nat.{ℕ, suc, ◌+◌, ◌*◌, ◌<◌, ◌≤◌}
use native.Mathlib.Omega.{arith}
use lib.ListN.{length}
use Rattle.lists.proofs.Tests.{same_or_not}
use Rattle.entities.specs.declared.Triple.{Triple}
use Rattle.entities.specs.Parents.{parent_number}
use Rattle.history.specs.History.{merge_of, next_parent, z_end}
use Rattle.history.specs.Lawful.{LawfulHistory}
use Rattle.history.specs.Flatpack.{absent_leaf}
use Rattle.history.specs.computed.Pairs.{holder}
use Rattle.history.proofs.Holders.{HeldOpen, parent_end, other_end, stayed_end, first_held, stays_held}
use Rattle.history.proofs.OpenSums.{one_root}
use Rattle.history.proofs.AbsentLeaf.{absent_leaf_last}
use Rattle.history.proofs.Amounts.{newest_merge, older_merge, node}

-- A leaf is its own z-end, whatever was merged.
pub leaf_end : (modes : ℕ) (history : List Triple) (leaf : ℕ) → leaf ≤ 2 * modes → z_end modes history leaf ≡ leaf
unfolding z_end next_parent
leaf_end modes [] leaf h = refl
leaf_end modes (merge ∷ history) leaf h =
    other_end modes merge history leaf (λ e. omega arith) ∙ leaf_end modes history leaf h

-- A later merge leaves the z-ends of the entities made before it.
made_end : (modes : ℕ) (merge : Triple) (history : List Triple) (entity label : ℕ) → entity < parent_number modes label → label ≤ length history
    → z_end modes (merge ∷ history) entity ≡ z_end modes history entity
unfolding next_parent
made_end modes merge history entity label h within = other_end modes merge history entity (λ e. omega arith)

-- "a parent's is that of its Z child": at any later time too.
pub node_end : (modes : ℕ) (history : List Triple) → LawfulHistory modes history → (label : ℕ) → label < length history
    → z_end modes history (parent_number modes label) ≡ z_end modes history (merge_of history label).z
unfolding next_parent
node_end modes [] lawful label h = absurd (omega arith)
node_end modes (merge ∷ history) lawful label h =
    ⊎_elim
    (λ e.
    parent_end modes merge history (parent_number modes label) (ap (parent_number modes) e)
    ∙ sym (stayed_end modes merge history merge.z lawful.0.z_open)
    ∙ ap (λ triple. z_end modes (merge ∷ history) triple.z) (sym (newest_merge merge history label e)))
    (λ other.
    let before : label < length history = omega arith in
    let child = (node modes history lawful.1 label before).z_before in
    made_end modes merge history (parent_number modes label) (suc label) (omega arith) (omega arith)
    ∙ node_end modes history lawful.1 label before
    ∙ sym (made_end modes merge history (merge_of history label).z label child (omega arith))
    ∙ ap (λ triple. z_end modes (merge ∷ history) triple.z) (sym (older_merge merge history label before)))
    (same_or_not label (length history))

-- The merge of a step has taken the pair: 2k ends its x's z-chain, and 2k+1 its y's.
pub record Closes (modes : ℕ) (history : List Triple) (k label : ℕ) : Type 0 where
  pub made : label < length history
  pub even : z_end modes history (merge_of history label).x ≡ 2 * k
  pub odd : z_end modes history (merge_of history label).y ≡ 2 * k + 1

module _ (modes : ℕ) (merge : Triple) (history : List Triple) (lawful : LawfulHistory modes (merge ∷ history)) (k : ℕ) where
  closes_now : z_end modes history merge.x ≡ 2 * k → Closes modes (merge ∷ history) k (length history)
  closes_now e =
      let now = newest_merge merge history (length history) refl in
      record {
        made = omega arith;
        even = rw now (stayed_end modes merge history merge.x lawful.0.x_open ∙ e);
        odd = rw now (stayed_end modes merge history merge.y lawful.0.y_open ∙ lawful.0.y_next ∙ ap (λ n. n + 1) e);
      }

  closes_still : (label : ℕ) → Closes modes history k label → Closes modes (merge ∷ history) k label
  closes_still label was =
      let still = older_merge merge history label was.made in
      let children = node modes history lawful.1 label was.made in
      let stays : (entity : ℕ) → entity < parent_number modes label → z_end modes (merge ∷ history) entity ≡ z_end modes history entity =
      λ entity h. made_end modes merge history entity label h (omega (arith, was.made)) in
      record {
        made = omega (arith, was.made);
        even = rw still (stays (merge_of history label).x children.x_before ∙ was.even);
        odd = rw still (stays (merge_of history label).y children.y_before ∙ was.odd);
      }

  held_still : (z_end modes history merge.x ≡ 2 * k → ⊥) → HeldOpen modes history (2 * k) → HeldOpen modes (merge ∷ history) (2 * k)
  held_still other held =
      stays_held modes merge history (2 * k)
      (record { before = held; not_x_end = other; not_y_end = λ e. omega (arith, lawful.0.x_even, lawful.0.y_next) })

-- A pair is held open, or some merge has closed it.
pub held_or_closed : (modes : ℕ) (history : List Triple) → LawfulHistory modes history → (k : ℕ) → k < modes
    → HeldOpen modes history (2 * k) ⊎ ((label : ℕ) × Closes modes history k label)
held_or_closed modes [] lawful k h = inl (first_held modes (2 * k) (omega arith))
held_or_closed modes (merge ∷ history) lawful k h =
    ⊎_elim
    (λ held.
    ⊎_elim
    (λ e. inr (length history, closes_now modes merge history lawful k e))
    (λ other. inl (held_still modes merge history lawful k other held))
    (same_or_not (z_end modes history merge.x) (2 * k)))
    (λ closed. inr (closed.0, closes_still modes merge history lawful k closed.0 closed.1))
    (held_or_closed modes history lawful.1 k h)

-- After n merges the root alone is open, and its z-end is 2n: every pair is closed.
pub all_closed : (modes : ℕ) (history : List Triple) → LawfulHistory modes history → length history ≡ modes → (k : ℕ) → k < modes
    → (label : ℕ) × Closes modes history k label
unfolding absent_leaf
all_closed modes history lawful all k h =
    ⊎_elim
    (λ held.
    let root = (one_root modes history lawful all (omega arith)).alone (holder modes history (2 * k)) held.is_held in
    let last : 2 * modes + length history ≡ 3 * modes = omega arith in
    let absent = rw last at (absent_leaf_last modes history lawful all (omega arith)) in
    absurd (omega (arith, rw root at held.end, absent)))
    (λ closed. closed)
    (held_or_closed modes history lawful k h)
