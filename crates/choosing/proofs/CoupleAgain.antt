-- A couple that an entity names is named by both of its entities, where the entity holds its own z-end.
use Rattle.choosing.specs.declared.lawful.Couple.{Couple}
use Rattle.std.proofs.lemmas.Option.{same_Some}
use Rattle.std.specs.Prelude.{None, Some, Option}
use mathlib.Core.Path.{◌≡◌, refl, ap, sym, ◌∙◌}
use mathlib.Core.Bool.{Bool, true, false, cond, not}
use mathlib.Core.List.{List}
use mathlib.Core.Logic.{⊎_elim}
use Prim.Native.Nat.{ℕ, ◌+◌, ◌-◌, ◌*◌, ◌%◌}
use native.Mathlib.Omega.{arith}
use borrow.Author.Tests.{eqb-true}
use lib.Dec.{eqb, ltb}
use Rattle.lists.proofs.Tests.{both, same_or_not}
use Rattle.entities.specs.declared.Triple.{Triple}
use Rattle.history.specs.History.{is_open, z_end}
use Rattle.history.specs.computed.Pairs.{holder}
use Rattle.choosing.specs.code.Couples.{x_of, y_of, ends_pair, coupled, couple}
use Rattle.choosing.proofs.Couples.{named_even, named_odd}

record Named (modes : ℕ) (history : List Triple) (a x y : ℕ) : Type 0 where
  pub are_coupled : coupled modes history x y ≡ true
  pub is_x : x_of modes history a ≡ x
  pub is_y : y_of modes history a ≡ y

module _ (modes : ℕ) (history : List Triple) where
  couple_named : (a x y : ℕ) → couple modes history a ≡ Some (record { x = x; y = y }) → Named modes history a x y
  unfolding couple
  couple_named a x y e = go (coupled modes history (x_of modes history a) (y_of modes history a)) refl e
    where
      go : (test : Bool) → coupled modes history (x_of modes history a) (y_of modes history a) ≡ test
          → cond {A = Option Couple} test (Some (record { x = x_of modes history a; y = y_of modes history a })) None ≡ Some (record { x = x; y = y }) → Named modes history a x y
      go true t e =
          let ex = ap (λ (named : Couple). named.x) (same_Some _ _ e) in
          let ey = ap (λ (named : Couple). named.y) (same_Some _ _ e) in
          record { are_coupled = rw (← ex, ← ey) t; is_x = ex; is_y = ey }
      go false t e = let z : ◌≡◌ {A = ℕ} 0 1 = cc in absurd (omega arith)

  named_couple : (a x y : ℕ) → Named modes history a x y → couple modes history a ≡ Some (record { x = x; y = y })
  unfolding couple
  named_couple a x y named = rw (named.is_x, named.is_y, named.are_coupled)

  module _ (x y : ℕ) (pair : coupled modes history x y ≡ true) where
    parts : (z_end modes history x % 2 ≡ 0) × (z_end modes history y ≡ z_end modes history x + 1)
    unfolding coupled ends_pair
    parts =
        let first = both (is_open modes history x) _ pair in
        let other = both (is_open modes history y) _ first.1 in
        let apart = both (not (eqb x y)) _ other.1 in
        let even = both (eqb (z_end modes history x % 2) 0) _ apart.1 in
        let next = both (ltb (z_end modes history x) (2 * modes)) _ even.1 in
        (eqb-true (z_end modes history x % 2) 0 even.0, eqb-true (z_end modes history y) (z_end modes history x + 1) next.1)

    x_even : z_end modes history x % 2 ≡ 0
    x_even = parts.0

    y_next : z_end modes history y ≡ z_end modes history x + 1
    y_next = parts.1

    -- Where both hold their own z-ends, either names the couple.
    module _ (x_holds : holder modes history (z_end modes history x) ≡ x) (y_holds : holder modes history (z_end modes history y) ≡ y) where
      x_names : couple modes history x ≡ Some (record { x = x; y = y })
      x_names =
          let names = named_even modes history x (z_end modes history x) refl x_even in
          named_couple x x y
          (record { are_coupled = pair; is_x = sym names.0; is_y = sym names.1 ∙ ap (holder modes history) (sym y_next) ∙ y_holds })

      y_names : couple modes history y ≡ Some (record { x = x; y = y })
      y_names =
          let odd : z_end modes history y % 2 ≡ 0 → ⊥ = λ e. omega (arith, x_even, y_next) in
          let before : z_end modes history y - 1 ≡ z_end modes history x = omega (arith, y_next) in
          let names = named_odd modes history y (z_end modes history y) refl odd in
          named_couple y x y
          (record { are_coupled = pair; is_x = sym names.0 ∙ ap (holder modes history) before ∙ x_holds; is_y = sym names.1 })

      both_name : (couple modes history x ≡ Some (record { x = x; y = y })) × (couple modes history y ≡ Some (record { x = x; y = y }))
      both_name = (x_names, y_names)

  pub couple_again : (a x y : ℕ) → couple modes history a ≡ Some (record { x = x; y = y }) → holder modes history (z_end modes history a) ≡ a
      → (couple modes history x ≡ Some (record { x = x; y = y })) × (couple modes history y ≡ Some (record { x = x; y = y }))
  couple_again a x y e holds =
      let named = couple_named a x y e in
      let pair = named.are_coupled in
      let next = y_next x y pair in
      ⊎_elim
      (λ even.
      (let names = named_even modes history a (z_end modes history a) refl even in
      let same : a ≡ x = names.0 ∙ named.is_x in
      let here : holder modes history (z_end modes history x) ≡ x = rw same at holds in
      let there : holder modes history (z_end modes history y) ≡ y =
      ap (holder modes history) (next ∙ ap (λ v. z_end modes history v + 1) (sym same)) ∙ names.1 ∙ named.is_y in
      both_name x y pair here there))
      (λ odd.
      (let names = named_odd modes history a (z_end modes history a) refl odd in
      let same : a ≡ y = names.1 ∙ named.is_y in
      let here : holder modes history (z_end modes history y) ≡ y = rw same at holds in
      let last : z_end modes history x ≡ z_end modes history a - 1 = omega (arith, next, ap (z_end modes history) same) in
      let there : holder modes history (z_end modes history x) ≡ x = ap (holder modes history) last ∙ names.0 ∙ named.is_x in
      both_name x y pair there here))
      (same_or_not (z_end modes history a % 2) 0)
