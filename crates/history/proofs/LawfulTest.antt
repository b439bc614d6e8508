-- The test for a lawful triple passes where the triple is lawful, and only there.
use mathlib.Core.Path.{◌≡◌}
use mathlib.Core.Bool.{true}
use mathlib.Core.List.{List}
use Prim.Native.Nat.{ℕ}
use borrow.Author.Tests.{eqb-true, eqb-false, eq-eqb, ne_eqb, ltb-true, lt-ltb, not-true}
use Rattle.lists.proofs.Tests.{both}
use Rattle.entities.specs.declared.Triple.{Triple}
use Rattle.history.specs.History.{is_open}
use Rattle.history.specs.Lawful.{Lawful, three_open, paired}
use Rattle.history.specs.computed.Pairs.{is_lawful}

module _ (modes : ℕ) (history : List Triple) (triple : Triple) where
  pub opens_test : three_open modes history triple ≡ true
      → (is_open modes history triple.x ≡ true) × (is_open modes history triple.y ≡ true) × (is_open modes history triple.z ≡ true)
  unfolding three_open
  opens_test e =
      let x = both _ _ e in
      let yz = both _ _ x.1 in
      (x.0, yz.0, yz.1)

  pub test_lawful : is_lawful modes history triple ≡ true → Lawful modes history triple
  unfolding is_lawful paired
  test_lawful e =
      let parts = both (three_open modes history triple) (paired modes history triple) e in
      let opens = opens_test parts.0 in
      let x_y = both _ _ parts.1 in
      let x_z = both _ _ x_y.1 in
      let y_z = both _ _ x_z.1 in
      let even = both _ _ y_z.1 in
      let below = both _ _ even.1 in
      record {
        x_open = opens.0;
        y_open = opens.1;
        z_open = opens.2;
        x_not_y = eqb-false _ _ (not-true _ x_y.0);
        x_not_z = eqb-false _ _ (not-true _ x_z.0);
        y_not_z = eqb-false _ _ (not-true _ y_z.0);
        x_even = eqb-true _ _ even.0;
        x_below = ltb-true _ _ below.0;
        y_next = eqb-true _ _ below.1;
      }

  pub lawful_test : Lawful modes history triple → is_lawful modes history triple ≡ true
  unfolding is_lawful three_open paired
  lawful_test l =
      rw (
        l.x_open,
        l.y_open,
        l.z_open,
        ne_eqb _ _ l.x_not_y,
        ne_eqb _ _ l.x_not_z,
        ne_eqb _ _ l.y_not_z,
        eq-eqb _ _ l.x_even,
        lt-ltb _ _ l.x_below,
        eq-eqb _ _ l.y_next,
      )
