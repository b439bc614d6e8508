-- What stands under an entity, weighed: the entity and, if it is a parent, all under its three children.
use mathlib.Core.Path.{◌≡◌, refl, ◌∙◌, sym}
use mathlib.Core.Bool.{true, cond}
use mathlib.Core.List.{List, [], ◌∷◌}
use mathlib.Core.Logic.{⊎_elim}
use Prim.Native.Nat.{ℕ, suc, ◌+◌, ◌-◌, ◌*◌, ◌<◌, ◌≤◌}
use native.Mathlib.Nat.{add-zero}
use native.Mathlib.Omega.{arith}
use borrow.Author.Tests.{eq-eqb, ne_eqb}
use lib.Dec.{eqb}
use lib.ListN.{length, get_or}
use Rattle.lists.proofs.Tests.{same_or_not}
use Rattle.lists.proofs.Totals.{total}
use Rattle.entities.specs.declared.Triple.{Triple}
use Rattle.history.specs.History.{merge_of, next_parent, is_open}
use Rattle.history.specs.Lawful.{Lawful, LawfulHistory}
use Rattle.history.proofs.Holders.{open_below}
use Rattle.history.proofs.OpenSums.{open_sum, parent_after, open_same, open_start, open_step, root_sum}

-- The weight of everything under an entity.
unfoldable pub amount : ℕ → List Triple → (ℕ → ℕ) → ℕ → ℕ
amount modes [] weight entity = weight entity
amount modes (merge ∷ history) weight entity =
    cond (eqb entity (next_parent modes history))
    (weight entity + (amount modes history weight merge.x + amount modes history weight merge.y + amount modes history weight merge.z))
    (amount modes history weight entity)

module _ (modes : ℕ) (merge : Triple) (history : List Triple) (weight : ℕ → ℕ) where
  pub amount_parent : (entity : ℕ) → entity ≡ next_parent modes history
      → amount modes (merge ∷ history) weight entity
      ≡ weight entity + (amount modes history weight merge.x + amount modes history weight merge.y + amount modes history weight merge.z)
  unfolding amount
  amount_parent entity e = rw (eq-eqb entity (next_parent modes history) e)

  pub amount_older : (entity : ℕ) → entity < next_parent modes history
      → amount modes (merge ∷ history) weight entity ≡ amount modes history weight entity
  unfolding amount
  amount_older entity l = rw (ne_eqb entity (next_parent modes history) (λ e. omega arith))

  pub amount_open : (entity : ℕ) → is_open modes history entity ≡ true
      → amount modes (merge ∷ history) weight entity ≡ amount modes history weight entity
  amount_open entity o = amount_older entity (open_below modes history entity o)

-- A leaf has nothing under it but itself.
pub amount_leaf : (modes : ℕ) (history : List Triple) (weight : ℕ → ℕ) (leaf : ℕ) → leaf ≤ 2 * modes → amount modes history weight leaf ≡ weight leaf
unfolding amount next_parent
amount_leaf modes [] weight leaf h = refl
amount_leaf modes (merge ∷ history) weight leaf h =
    amount_older modes merge history weight leaf (omega arith) ∙ amount_leaf modes history weight leaf h

-- Everything made so far stands under one open entity.
pub amount_all : (modes : ℕ) (history : List Triple) → LawfulHistory modes history → (weight : ℕ → ℕ)
    → open_sum modes history (amount modes history weight) ≡ total weight (next_parent modes history)
unfolding amount next_parent total
amount_all modes [] lawful weight = rw (add-zero (2 * modes + 1)) (open_start modes weight)
amount_all modes (merge ∷ history) lawful weight =
    let l = lawful.0 in
    let now = amount modes (merge ∷ history) weight in
    let older = amount_open modes merge history weight in
    let x = older merge.x l.x_open in
    let y = older merge.y l.y_open in
    let z = older merge.z l.z_open in
    let parent = amount_parent modes merge history weight (next_parent modes history) refl in
    let step = open_step modes history merge l now in
    let rest = open_same modes history now (amount modes history weight) older ∙ amount_all modes history lawful.1 weight in
    rw (parent_after modes merge history) (omega arith)

-- After n merges everything stands under the root.
pub amount_root : (modes : ℕ) (history : List Triple) → LawfulHistory modes history → length history ≡ modes → 1 ≤ modes
    → (weight : ℕ → ℕ) → amount modes history weight (3 * modes) ≡ total weight (2 * modes + 1 + modes)
unfolding next_parent
amount_root modes history lawful all some_modes weight =
    let everything = rw all at (amount_all modes history lawful weight) in
    sym (root_sum modes history lawful all some_modes (amount modes history weight)) ∙ everything

module _ (merge : Triple) (history : List Triple) where
  pub newest_merge : (label : ℕ) → label ≡ length history → merge_of (merge ∷ history) label ≡ merge
  unfolding merge_of
  newest_merge label e = rw (eq-eqb label (length history) e)

  pub older_merge : (label : ℕ) → label < length history → merge_of (merge ∷ history) label ≡ merge_of history label
  unfolding merge_of
  older_merge label h = rw (ne_eqb label (length history) (λ e. absurd (omega arith)))

-- The history is written newest first.
pub merge_getD : (history : List Triple) (label : ℕ) → label < length history
    → merge_of history label ≡ get_or history (length history - suc label) (record { x = 0; y = 0; z = 0 })
merge_getD [] label h = absurd (omega arith)
merge_getD (merge ∷ history) label h =
    ⊎_elim
    (λ e. newest_merge merge history label e ∙ (let first : suc (length history) - suc label ≡ 0 = omega arith in rw first))
    (λ other.
    older_merge merge history label (omega arith)
    ∙ merge_getD history label (omega arith)
    ∙ (let later : suc (length history) - suc label ≡ suc (length history - suc label) = omega arith in rw later))
    (same_or_not label (length history))

-- These are a node's children: they were made before it, and what stands under it stands under them.
pub record Node (modes : ℕ) (history : List Triple) (label : ℕ) (triple : Triple) : Type 0 where
  pub x_before : triple.x < 2 * modes + 1 + label
  pub y_before : triple.y < 2 * modes + 1 + label
  pub z_before : triple.z < 2 * modes + 1 + label
  pub under : (weight : ℕ → ℕ)
      → amount modes history weight (2 * modes + 1 + label)
      ≡ weight (2 * modes + 1 + label)
      + (amount modes history weight triple.x + amount modes history weight triple.y + amount modes history weight triple.z)

module _ (modes : ℕ) (merge : Triple) (history : List Triple) (label : ℕ) where
  newest_node : Lawful modes history merge → label ≡ length history → Node modes (merge ∷ history) label merge
  unfolding next_parent
  newest_node l e =
      let older = amount_open modes merge history in
      record {
        x_before = omega (arith, open_below modes history merge.x l.x_open);
        y_before = omega (arith, open_below modes history merge.y l.y_open);
        z_before = omega (arith, open_below modes history merge.z l.z_open);
        under =
            λ weight. rw (older weight merge.x l.x_open, older weight merge.y l.y_open, older weight merge.z l.z_open)
            (amount_parent modes merge history weight (2 * modes + 1 + label) (omega arith));
      }

  older_node : (triple : Triple) → Node modes history label triple → label < length history → Node modes (merge ∷ history) label triple
  unfolding next_parent
  older_node triple n h =
      let older = amount_older modes merge history in
      let x = n.x_before in
      let y = n.y_before in
      let z = n.z_before in
      record {
        x_before = x;
        y_before = y;
        z_before = z;
        under =
            λ weight. rw (
              older weight triple.x (omega arith),
              older weight triple.y (omega arith),
              older weight triple.z (omega arith),
              older weight (2 * modes + 1 + label) (omega arith),
            )
            (n.under weight);
      }

pub node : (modes : ℕ) (history : List Triple) → LawfulHistory modes history → (label : ℕ) → label < length history
    → Node modes history label (merge_of history label)
node modes [] lawful label h = absurd (omega arith)
node modes (merge ∷ history) lawful label h =
    ⊎_elim
    (λ e. rw (newest_merge merge history label e) (newest_node modes merge history label lawful.0 e))
    (λ other.
    (let l : label < length history = omega arith in
    rw (older_merge merge history label l)
    (older_node modes merge history label (merge_of history label) (node modes history lawful.1 label l) l)))
    (same_or_not label (length history))
