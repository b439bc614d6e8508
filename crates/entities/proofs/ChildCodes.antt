-- The codes of entities where 2n is the absent leaf; an entity can be told from its code.
use mathlib.Core.Path.{◌≡◌, refl, ap, ◌∙◌, sym}
use mathlib.Core.Bool.{Bool, true, false, cond}
use mathlib.Core.Logic.{⊎_elim}
use Prim.Native.Nat.{ℕ, ◌+◌, ◌-◌, ◌*◌, ◌<◌, ◌≤◌}
use native.Mathlib.Omega.{arith}
use borrow.Author.Tests.{eq-eqb, ne_eqb, lt-ltb, le-ltb, ltb-true, ltb-false}
use lib.Dec.{ltb}
use Rattle.lists.specs.Counting.{same}
use Rattle.lists.proofs.Tests.{same_or_not}
use Rattle.lists.proofs.Sums.{same_one, same_none}
use Rattle.entities.specs.Codes.{absent, child_code}

module _ (modes : ℕ) where
  pub code_absent : child_code modes (2 * modes) (2 * modes) ≡ absent
  unfolding child_code
  code_absent = rw (eq-eqb (2 * modes) (2 * modes) refl)

  pub code_leaf : (entity : ℕ) → entity < 2 * modes → child_code modes (2 * modes) entity ≡ entity + modes
  unfolding child_code
  code_leaf entity h = rw (ne_eqb entity (2 * modes) (λ q. omega arith), lt-ltb entity (2 * modes + 1) (omega arith))

  pub code_node : (label : ℕ) → child_code modes (2 * modes) (2 * modes + 1 + label) ≡ label
  unfolding child_code
  code_node label =
      let back : 2 * modes + 1 + label - (2 * modes + 1) ≡ label = omega arith in
      rw (ne_eqb (2 * modes + 1 + label) (2 * modes) (λ q. omega arith), le-ltb (2 * modes + 1 + label) (2 * modes + 1) (omega arith), back)

  -- An entity is the absent leaf, another leaf or a node.
  pub entity_cases : (P : ℕ → Type 0) → P (2 * modes)
      → ((leaf : ℕ) → leaf < 2 * modes → P leaf) → ((label : ℕ) → label < modes → P (2 * modes + 1 + label))
      → (entity : ℕ) → entity < 2 * modes + 1 + modes → P entity
  entity_cases P at_absent at_leaf at_node entity h =
      ⊎_elim
      (λ e. rw e at_absent)
      (λ other. go (ltb entity (2 * modes)) refl other)
      (same_or_not entity (2 * modes))
    where
      go : (b : Bool) → ltb entity (2 * modes) ≡ b → (entity ≡ 2 * modes → ⊥) → P entity
      go true e other = at_leaf entity (ltb-true entity (2 * modes) e)
      go false e other =
          let above = ltb-false entity (2 * modes) e in
          let split : 2 * modes + 1 + (entity - (2 * modes + 1)) ≡ entity = omega arith in
          rw split at (at_node (entity - (2 * modes + 1)) (omega arith))

  -- The entity with a code.
  entity_of : ℕ → ℕ
  entity_of number = cond (ltb number modes) (2 * modes + 1 + number) (cond (ltb number (3 * modes)) (number - modes) (2 * modes))

  module _ (small : 3 * modes ≤ absent) where
    code_back : (entity : ℕ) → entity < 2 * modes + 1 + modes → entity_of (child_code modes (2 * modes) entity) ≡ entity
    unfolding entity_of
    code_back =
        entity_cases (λ entity. entity_of (child_code modes (2 * modes) entity) ≡ entity)
        (rw (code_absent, le-ltb absent modes (omega arith), le-ltb absent (3 * modes) small) refl)
        (λ leaf h.
        (let back : leaf + modes - modes ≡ leaf = omega arith in
        rw (code_leaf leaf h, le-ltb (leaf + modes) modes (omega arith), lt-ltb (leaf + modes) (3 * modes) (omega arith)) back))
        (λ label h. rw (code_node label, lt-ltb label modes h) refl)

    pub same_code : (a b : ℕ) → a < 2 * modes + 1 + modes → b < 2 * modes + 1 + modes
        → same (child_code modes (2 * modes) a) (child_code modes (2 * modes) b) ≡ same a b
    same_code a b p q =
        ⊎_elim
        (λ e. same_one (child_code modes (2 * modes) a) (child_code modes (2 * modes) b) (ap (child_code modes (2 * modes)) e) ∙ sym (same_one a b e))
        (λ other.
        same_none (child_code modes (2 * modes) a) (child_code modes (2 * modes) b)
        (λ e. other (sym (code_back a p) ∙ ap entity_of e ∙ code_back b q))
        ∙ sym (same_none a b other))
        (same_or_not a b)
