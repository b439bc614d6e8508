-- After lawful merges each open entity is the holder of its z-end, and a leaf held by an open entity has its mate so held too.
use mathlib.Core.Path.{◌≡◌, refl, ap, ◌∙◌, sym}
use mathlib.Core.Bool.{true, false, or-true}
use mathlib.Core.List.{List, [], ◌∷◌}
use mathlib.Core.Logic.{◌⊎◌, inl, inr, ⊎_elim}
use Prim.Native.Nat.{ℕ, ◌+◌, ◌*◌, ◌/◌, ◌%◌, ◌<◌, ◌≤◌}
use native.Mathlib.Omega.{arith}
use borrow.Author.Tests.{eqb-true, eqb-false, eq-eqb, ne_eqb, leb-true, le-leb, not-true}
use lib.Dec.{eqb}
use Rattle.lists.proofs.Tests.{both, either, neither, same_or_not}
use Rattle.entities.specs.declared.Triple.{Triple}
use Rattle.history.specs.History.{next_parent, among, is_open, z_end}
use Rattle.history.specs.computed.Pairs.{holder}
use Rattle.history.specs.Lawful.{Lawful, LawfulHistory}

-- The entity is none of the triple's three.
pub record Apart (triple : Triple) (entity : ℕ) : Type 0 where
  pub not_x : entity ≡ triple.x → ⊥
  pub not_y : entity ≡ triple.y → ⊥
  pub not_z : entity ≡ triple.z → ⊥

module _ (triple : Triple) (entity : ℕ) where
  among_apart : among triple entity ≡ false → Apart triple entity
  unfolding among
  among_apart e =
      let x = neither _ _ e in
      let yz = neither _ _ x.1 in
      record { not_x = eqb-false _ _ x.0; not_y = eqb-false _ _ yz.0; not_z = eqb-false _ _ yz.1 }

  apart_among : Apart triple entity → among triple entity ≡ false
  unfolding among
  apart_among a = rw (ne_eqb _ _ a.not_x, ne_eqb _ _ a.not_y, ne_eqb _ _ a.not_z)

-- One merge: its parent is open, and an entity apart from it stays as it was.
module _ (modes : ℕ) (merge : Triple) (history : List Triple) where
  pub parent_open : is_open modes (merge ∷ history) (next_parent modes history) ≡ true
  unfolding is_open
  parent_open = rw (eq-eqb (next_parent modes history) _ refl)

  pub stays_open : (entity : ℕ) → is_open modes history entity ≡ true → Apart merge entity → is_open modes (merge ∷ history) entity ≡ true
  unfolding is_open
  stays_open entity o a = rw (o, apart_among merge entity a) (or-true (eqb entity (next_parent modes history)))

  pub open_cases : (entity : ℕ) → is_open modes (merge ∷ history) entity ≡ true
      → (entity ≡ next_parent modes history) ⊎ ((is_open modes history entity ≡ true) × Apart merge entity)
  unfolding is_open
  open_cases entity o =
      ⊎_elim (λ e. inl (eqb-true _ _ e))
      (λ e. (let stayed = both _ _ e in inr (stayed.0, among_apart merge entity (not-true _ stayed.1))))
      (either _ _ o)

  pub parent_end : (entity : ℕ) → entity ≡ next_parent modes history → z_end modes (merge ∷ history) entity ≡ z_end modes history merge.z
  unfolding z_end
  parent_end entity e = rw (eq-eqb _ _ e)

  pub other_end : (entity : ℕ) → (entity ≡ next_parent modes history → ⊥) → z_end modes (merge ∷ history) entity ≡ z_end modes history entity
  unfolding z_end
  other_end entity n = rw (ne_eqb _ _ n)

  pub parent_holds : (leaf : ℕ) → z_end modes history merge.z ≡ leaf → holder modes (merge ∷ history) leaf ≡ next_parent modes history
  unfolding holder
  parent_holds leaf e = rw (eq-eqb _ _ e)

  pub other_holds : (leaf : ℕ) → (z_end modes history merge.z ≡ leaf → ⊥) → holder modes (merge ∷ history) leaf ≡ holder modes history leaf
  unfolding holder
  other_holds leaf n = rw (ne_eqb _ _ n)

pub open_below : (modes : ℕ) (history : List Triple) (entity : ℕ) → is_open modes history entity ≡ true → entity < next_parent modes history
unfolding is_open next_parent
open_below modes [] entity o = omega (arith, leb-true entity (2 * modes) o)
open_below modes (merge ∷ history) entity o =
    ⊎_elim (λ e. omega arith) (λ stayed. omega (arith, open_below modes history entity stayed.0)) (open_cases modes merge history entity o)

pub stayed_end : (modes : ℕ) (merge : Triple) (history : List Triple) (entity : ℕ) → is_open modes history entity ≡ true
    → z_end modes (merge ∷ history) entity ≡ z_end modes history entity
stayed_end modes merge history entity o =
    other_end modes merge history entity (λ e. omega (arith, open_below modes history entity o))

pub end_within : (modes : ℕ) (history : List Triple) → LawfulHistory modes history → (entity : ℕ) → entity < next_parent modes history
    → z_end modes history entity ≤ 2 * modes
unfolding next_parent z_end
end_within modes [] lawful entity h = omega arith
end_within modes (merge ∷ history) lawful entity h =
    ⊎_elim
    (λ e. rw (parent_end modes merge history entity e) (end_within modes history lawful.1 merge.z (open_below modes history _ lawful.0.z_open)))
    (λ n. rw (other_end modes merge history entity n) (end_within modes history lawful.1 entity (omega arith)))
    (same_or_not entity (next_parent modes history))

pub open_end_within : (modes : ℕ) (history : List Triple) → LawfulHistory modes history → (entity : ℕ) → is_open modes history entity ≡ true
    → z_end modes history entity ≤ 2 * modes
open_end_within modes history lawful entity o = end_within modes history lawful entity (open_below modes history entity o)

-- If before the merge each open entity is the holder of its z-end, so it is after it.
holds_step : (modes : ℕ) (merge : Triple) (history : List Triple) → is_open modes history merge.z ≡ true
    → ((entity : ℕ) → is_open modes history entity ≡ true → holder modes history (z_end modes history entity) ≡ entity)
    → (entity : ℕ) → is_open modes (merge ∷ history) entity ≡ true
    → holder modes (merge ∷ history) (z_end modes (merge ∷ history) entity) ≡ entity
holds_step modes merge history z_open holds entity o =
    ⊎_elim
    (λ e. rw (parent_end modes merge history entity e) (parent_holds modes merge history _ refl ∙ sym e))
    (λ stayed.
    rw (stayed_end modes merge history entity stayed.0)
    (other_holds modes merge history _
    (λ e. stayed.1.not_z (sym (holds entity stayed.0) ∙ ap (holder modes history) (sym e) ∙ holds merge.z z_open))
    ∙ holds entity stayed.0))
    (open_cases modes merge history entity o)

pub holds_end : (modes : ℕ) (history : List Triple) → LawfulHistory modes history → (entity : ℕ) → is_open modes history entity ≡ true
    → holder modes history (z_end modes history entity) ≡ entity
unfolding holder z_end
holds_end modes [] lawful entity o = refl
holds_end modes (merge ∷ history) lawful entity o =
    holds_step modes merge history lawful.0.z_open (holds_end modes history lawful.1) entity o

-- The leaf is the z-end of an open entity, its holder.
pub record HeldOpen (modes : ℕ) (history : List Triple) (leaf : ℕ) : Type 0 where
  pub is_held : is_open modes history (holder modes history leaf) ≡ true
  pub end : z_end modes history (holder modes history leaf) ≡ leaf

module _ (modes : ℕ) (history : List Triple) (lawful : LawfulHistory modes history) where
  pub one_holder : (a b : ℕ) → is_open modes history a ≡ true → is_open modes history b ≡ true
      → z_end modes history a ≡ z_end modes history b → a ≡ b
  one_holder a b p q e =
      sym (holds_end modes history lawful a p) ∙ ap (holder modes history) e ∙ holds_end modes history lawful b q

  pub end_held : (entity leaf : ℕ) → is_open modes history entity ≡ true → z_end modes history entity ≡ leaf → HeldOpen modes history leaf
  end_held entity leaf o e =
      let same : holder modes history leaf ≡ entity = ap (holder modes history) (sym e) ∙ holds_end modes history lawful entity o in
      record { is_held = rw same o; end = rw same e }

-- The leaf was held before the merge, and by neither its x nor its y: just then it is held after it.
pub record HeldBefore (modes : ℕ) (merge : Triple) (history : List Triple) (leaf : ℕ) : Type 0 where
  pub before : HeldOpen modes history leaf
  pub not_x_end : z_end modes history merge.x ≡ leaf → ⊥
  pub not_y_end : z_end modes history merge.y ≡ leaf → ⊥

module _ (modes : ℕ) (merge : Triple) (history : List Triple) (leaf : ℕ) where
  pub stays_held : HeldBefore modes merge history leaf → HeldOpen modes (merge ∷ history) leaf
  stays_held was =
      ⊎_elim
      (λ e. (let same = parent_holds modes merge history leaf e in
      record { is_held = rw same (parent_open modes merge history); end = rw same (parent_end modes merge history _ refl ∙ e) }))
      (λ n. (let same = other_holds modes merge history leaf n in
      record {
        is_held = rw same (stays_open modes merge history _ was.before.is_held (apart n));
        end = rw same (stayed_end modes merge history _ was.before.is_held ∙ was.before.end);
      }))
      (same_or_not (z_end modes history merge.z) leaf)
    where
      apart : (z_end modes history merge.z ≡ leaf → ⊥) → Apart merge (holder modes history leaf)
      apart n =
          record {
            not_x = λ e. was.not_x_end (ap (z_end modes history) (sym e) ∙ was.before.end);
            not_y = λ e. was.not_y_end (ap (z_end modes history) (sym e) ∙ was.before.end);
            not_z = λ e. n (ap (z_end modes history) (sym e) ∙ was.before.end);
          }

  module _ (newest : Lawful modes history merge) (lawful : LawfulHistory modes history) where
    held_by : (entity : ℕ) → is_open modes history entity ≡ true → z_end modes history entity ≡ leaf
        → (merge.x ≡ entity → ⊥) → (merge.y ≡ entity → ⊥) → HeldBefore modes merge history leaf
    held_by entity o e not_x not_y =
        record {
          before = end_held modes history lawful entity leaf o e;
          not_x_end = λ q. not_x (one_holder modes history lawful _ _ newest.x_open o (q ∙ sym e));
          not_y_end = λ q. not_y (one_holder modes history lawful _ _ newest.y_open o (q ∙ sym e));
        }

    pub was_held : HeldOpen modes (merge ∷ history) leaf → HeldBefore modes merge history leaf
    was_held held =
        ⊎_elim
        (λ e. held_by merge.z newest.z_open
        (sym (parent_end modes merge history _ e) ∙ held.end) newest.x_not_z newest.y_not_z)
        (λ stayed.
        held_by (holder modes (merge ∷ history) leaf) stayed.0
        (sym (stayed_end modes merge history _ stayed.0) ∙ held.end)
        (λ e. stayed.1.not_x (sym e)) (λ e. stayed.1.not_y (sym e)))
        (open_cases modes merge history _ held.is_held)

-- At first every leaf is its own holder.
pub first_held : (modes leaf : ℕ) → leaf ≤ 2 * modes → HeldOpen modes [] leaf
unfolding is_open holder z_end
first_held modes leaf h = record { is_held = le-leb _ _ h; end = refl }

-- The leaf that has no mate is held for good.
pub last_held : (modes : ℕ) (history : List Triple) → LawfulHistory modes history → HeldOpen modes history (2 * modes)
last_held modes [] lawful = first_held modes (2 * modes) (omega arith)
last_held modes (merge ∷ history) lawful =
    stays_held modes merge history (2 * modes)
    (record { before = last_held modes history lawful.1; not_x_end = λ e. omega arith; not_y_end = λ e. omega arith })

-- A leaf whose half is that of an even one is it or the next.
same_half : (even next leaf : ℕ) → even % 2 ≡ 0 → next ≡ even + 1 → even / 2 ≡ leaf / 2 → (even ≡ leaf) ⊎ (next ≡ leaf)
same_half even next leaf e n h = ⊎_elim inl (λ other. inr (omega arith)) (same_or_not even leaf)

-- Mates are the leaves with the same half: a merge takes both or neither.
pub mate_held : (modes : ℕ) (history : List Triple) → LawfulHistory modes history → (leaf mate : ℕ) → leaf < 2 * modes → leaf / 2 ≡ mate / 2
    → HeldOpen modes history leaf → HeldOpen modes history mate
mate_held modes [] lawful leaf mate h same held = first_held modes mate (omega arith)
mate_held modes (merge ∷ history) lawful leaf mate h same held =
    let was = was_held modes merge history leaf lawful.0 lawful.1 held in
    let untaken : z_end modes history merge.x / 2 ≡ leaf / 2 → ⊥ =
    λ e. ⊎_elim was.not_x_end was.not_y_end (same_half _ _ leaf lawful.0.x_even lawful.0.y_next e) in
    stays_held modes merge history mate
    (record {
      before = mate_held modes history lawful.1 leaf mate h same was.before;
      not_x_end = λ e. untaken (omega arith);
      not_y_end = λ e. untaken (omega arith);
    })

pub mate_of_open : (modes : ℕ) (history : List Triple) → LawfulHistory modes history → (entity mate : ℕ) → is_open modes history entity ≡ true
    → z_end modes history entity < 2 * modes → z_end modes history entity / 2 ≡ mate / 2 → HeldOpen modes history mate
mate_of_open modes history lawful entity mate o h same =
    mate_held modes history lawful _ mate h same (end_held modes history lawful entity _ o refl)
