-- The triple that a pair names is its a's x and y with its z, and is lawful where they are coupled and z is free.
use mathlib.Core.Path.{◌≡◌, refl, ap, sym}
use mathlib.Core.Bool.{Bool, true, false, cond, not, ◌&&◌, and-false}
use mathlib.Core.List.{List}
use Prim.Native.Nat.{ℕ, ◌+◌, ◌-◌, ◌≤◌, ◌%◌}
use native.Mathlib.Omega.{arith}
use borrow.Author.Tests.{eq-eqb, ne_eqb}
use lib.Dec.{eqb}
use Rattle.lists.proofs.Tests.{not_so}
use Rattle.entities.specs.declared.Triple.{Triple}
use Rattle.history.specs.History.{next_parent, is_open, z_end}
use Rattle.history.specs.Lawful.{Pair, three_open, paired}
use Rattle.history.specs.computed.Pairs.{holder, named, is_lawful}
use Rattle.history.proofs.Holders.{open_below}
use Rattle.choosing.specs.code.Couples.{x_of, y_of, coupled, ends_pair, free}

-- No number beyond the entities is open.
pub closed_beyond : (modes : ℕ) (history : List Triple) (entity : ℕ) → next_parent modes history ≤ entity → is_open modes history entity ≡ false
closed_beyond modes history entity h = not_so (is_open modes history entity) (λ e. omega (arith, open_below modes history entity e))

module _ (modes : ℕ) (history : List Triple) where
  pub named_parts : (pair : Pair) → named modes history pair ≡ record { x = x_of modes history pair.a; y = y_of modes history pair.a; z = pair.z }
  unfolding named x_of y_of
  named_parts pair =
      go (eqb (z_end modes history pair.a % 2) 0) pair.a (holder modes history (z_end modes history pair.a + 1))
      (holder modes history (z_end modes history pair.a - 1)) pair.z
    where
      go : (even : Bool) (a next last z : ℕ)
          → cond {A = Triple} even (record { x = a; y = next; z = z }) (record { x = last; y = a; z = z })
          ≡ record {
            x = (cond {A = Triple} even (record { x = a; y = next; z = 0 }) (record { x = last; y = a; z = 0 })).x;
            y = (cond {A = Triple} even (record { x = a; y = next; z = 0 }) (record { x = last; y = a; z = 0 })).y;
            z = z;
          }
      go true a next last z = refl
      go false a next last z = refl

  -- An even z-end makes a the x, an odd one the y.
  module _ (a : ℕ) where
    either_way : Bool → Triple
    either_way even =
        cond even (record { x = a; y = holder modes history (z_end modes history a + 1); z = 0 })
        (record { x = holder modes history (z_end modes history a - 1); y = a; z = 0 })

    names : (even : Bool) → eqb (z_end modes history a % 2) 0 ≡ even
        → ((either_way even).x ≡ x_of modes history a) × ((either_way even).y ≡ y_of modes history a)
    unfolding either_way x_of y_of named
    names even e = (ap (λ b. (either_way b).x) (sym e), ap (λ b. (either_way b).y) (sym e))

    module _ (end : ℕ) (e : end ≡ z_end modes history a) where
      pub named_even : end % 2 ≡ 0 → (a ≡ x_of modes history a) × (holder modes history (end + 1) ≡ y_of modes history a)
      unfolding either_way
      named_even even = rw e (names true (eq-eqb (z_end modes history a % 2) 0 (rw e at even)))

      pub named_odd : (end % 2 ≡ 0 → ⊥) → (holder modes history (end - 1) ≡ x_of modes history a) × (a ≡ y_of modes history a)
      unfolding either_way
      named_odd odd = rw e (names false (ne_eqb (z_end modes history a % 2) 0 (rw e at odd)))

  -- The same tests in another order.
  shuffled : (ox oy oz xy xz yz pair : Bool)
      → ((ox && (oy && oz)) && (xy && (xz && (yz && pair)))) ≡ ((ox && (oy && (xy && pair))) && (xz && (yz && oz)))
  shuffled false oy oz xy xz yz pair = refl
  shuffled true false oz xy xz yz pair = refl
  shuffled true true false false xz yz pair = refl
  shuffled true true false true xz yz false = refl
  shuffled true true false true false yz true = refl
  shuffled true true false true true false true = refl
  shuffled true true false true true true true = refl
  shuffled true true true false xz yz pair = refl
  shuffled true true true true false yz pair = rw (and-false pair)
  shuffled true true true true true false pair = rw (and-false pair)
  shuffled true true true true true true false = refl
  shuffled true true true true true true true = refl

  pub lawful_parts : (triple : Triple)
      → is_lawful modes history triple ≡ (coupled modes history triple.x triple.y && free modes history triple)
  unfolding is_lawful three_open paired coupled ends_pair free
  lawful_parts triple =
      shuffled (is_open modes history triple.x) (is_open modes history triple.y) (is_open modes history triple.z)
      (not (eqb triple.x triple.y)) (not (eqb triple.x triple.z)) (not (eqb triple.y triple.z))
      (ends_pair modes (z_end modes history triple.x) (z_end modes history triple.y))
