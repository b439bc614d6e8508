-- An open entity whose z-end is below 2n has a partner, and is in a lawful pair with every other open entity.
use mathlib.Core.Path.{◌≡◌, ap, sym}
use mathlib.Core.Bool.{true, false}
use mathlib.Core.List.{List}
use mathlib.Core.Logic.{⊎_elim}
use Prim.Native.Nat.{ℕ, ◌+◌, ◌-◌, ◌*◌, ◌%◌, ◌<◌}
use native.Mathlib.Omega.{arith}
use borrow.Author.Tests.{eq-eqb, ne_eqb}
use Rattle.lists.proofs.Tests.{same_or_not, not_so}
use Rattle.entities.specs.declared.Triple.{Triple}
use Rattle.history.specs.History.{is_open, z_end}
use Rattle.history.specs.Lawful.{Lawful, LawfulHistory, Pair}
use Rattle.history.specs.computed.Pairs.{holder, is_lawful, named}
use Rattle.history.proofs.LawfulTest.{test_lawful}
use Rattle.history.proofs.Holders.{mate_of_open}
use Rattle.history.proofs.Names.{names_named}

pub unlawful_test : (modes : ℕ) (history : List Triple) (triple : Triple) → (Lawful modes history triple → ⊥) → is_lawful modes history triple ≡ false
unlawful_test modes history triple unlawful = not_so (is_lawful modes history triple) (λ e. unlawful (test_lawful modes history triple e))

-- The first of a lawful pair is open, with a z-end that has a mate.
pub first_fits : (modes : ℕ) (history : List Triple) (pair : Pair) → Lawful modes history (named modes history pair)
    → (is_open modes history pair.a ≡ true) × (z_end modes history pair.a < 2 * modes)
first_fits modes history pair l =
    ⊎_elim (λ e. rw e (l.x_open, l.x_below)) (λ e. rw e (l.y_open, omega arith)) (names_named modes history pair).a_is

-- The third that a lawful pair takes beside a is any open entity but a and its partner.
pub record Third (modes : ℕ) (history : List Triple) (a partner z : ℕ) : Type 0 where
  pub z_open : is_open modes history z ≡ true
  pub not_a : z ≡ a → ⊥
  pub not_partner : z ≡ partner → ⊥

pub record Partner (modes : ℕ) (history : List Triple) (a partner : ℕ) : Type 0 where
  pub partner_open : is_open modes history partner ≡ true
  pub apart : partner ≡ a → ⊥
  pub lawful_third : (z : ℕ) → Third modes history a partner z → Lawful modes history (named modes history (record { a = a; z = z }))
  pub third_lawful : (z : ℕ) → Lawful modes history (named modes history (record { a = a; z = z })) → Third modes history a partner z

module _ (modes : ℕ) (history : List Triple) (lawful : LawfulHistory modes history) (a : ℕ)
    (a_open : is_open modes history a ≡ true) (below : z_end modes history a < 2 * modes) where
  partner_of_even : z_end modes history a % 2 ≡ 0 → Partner modes history a (holder modes history (z_end modes history a + 1))
  unfolding named
  partner_of_even even =
      let held = mate_of_open modes history lawful a (z_end modes history a + 1) a_open below (omega arith) in
      record {
        partner_open = held.is_held;
        apart = λ e. (let ends = ap (z_end modes history) e in omega (arith, held.end));
        lawful_third =
            λ z third. rw (eq-eqb (z_end modes history a % 2) 0 even)
            (record {
              x_open = a_open;
              y_open = held.is_held;
              z_open = third.z_open;
              x_not_y = λ e. (let ends = ap (z_end modes history) e in omega (arith, held.end));
              x_not_z = λ e. third.not_a (sym e);
              y_not_z = λ e. third.not_partner (sym e);
              x_even = even;
              x_below = below;
              y_next = held.end;
            });
        third_lawful =
            λ z l. (let t = rw (eq-eqb (z_end modes history a % 2) 0 even) at l in
            record { z_open = t.z_open; not_a = λ e. t.x_not_z (sym e); not_partner = λ e. t.y_not_z (sym e) });
      }

  partner_of_odd : (z_end modes history a % 2 ≡ 0 → ⊥) → Partner modes history a (holder modes history (z_end modes history a - 1))
  unfolding named
  partner_of_odd odd =
      let held = mate_of_open modes history lawful a (z_end modes history a - 1) a_open below (omega arith) in
      record {
        partner_open = held.is_held;
        apart = λ e. (let ends = ap (z_end modes history) e in omega (arith, held.end));
        lawful_third =
            λ z third. rw (ne_eqb (z_end modes history a % 2) 0 odd)
            (record {
              x_open = held.is_held;
              y_open = a_open;
              z_open = third.z_open;
              x_not_y = λ e. (let ends = ap (z_end modes history) e in omega (arith, held.end));
              x_not_z = λ e. third.not_partner (sym e);
              y_not_z = λ e. third.not_a (sym e);
              x_even = rw held.end (omega arith);
              x_below = rw held.end (omega arith);
              y_next = rw held.end (omega arith);
            });
        third_lawful =
            λ z l. (let t = rw (ne_eqb (z_end modes history a % 2) 0 odd) at l in
            record { z_open = t.z_open; not_a = λ e. t.y_not_z (sym e); not_partner = λ e. t.x_not_z (sym e) });
      }

  pub has_partner : (partner : ℕ) × Partner modes history a partner
  has_partner =
      ⊎_elim
      (λ even. (holder modes history (z_end modes history a + 1), partner_of_even even))
      (λ odd. (holder modes history (z_end modes history a - 1), partner_of_odd odd))
      (same_or_not (z_end modes history a % 2) 0)
