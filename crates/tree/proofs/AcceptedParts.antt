-- A table is accepted where every condition of the check holds, and only there.
use Rattle.std.specs.Prelude.{Ok}
use mathlib.Core.Path.{◌≡◌, refl}
use mathlib.Core.Bool.{Bool, true, false, ◌&&◌, and-eq-true_iff}
use mathlib.Core.List.{List}
use Prim.Native.Nat.{ℕ, ◌*◌, ◌≤◌}
use native.Mathlib.Omega.{arith}
use borrow.Author.Tests.{eq-eqb, le-leb, le-ltb, eqb-true, leb-true, ltb-false}
use lib.Dec.{eqb, ltb, leb}
use lib.ListN.{length}
use Rattle.terms.specs.Good.{modes_good}
use Rattle.tree.specs.OneTree.{one_tree}
use Rattle.tree.specs.Pairs.{pairs_right}
use Rattle.tree.specs.Check.{codes_good, tree_checked}

pub record AcceptedParts (most modes : ℕ) (table : List ℕ) : Type 0 where
  pub some : 1 ≤ modes
  pub few : modes ≤ most
  pub whole : length table ≡ 3 * modes
  pub good : length table ≤ codes_good modes table
  pub one : one_tree modes table ≡ true
  pub right : modes ≤ pairs_right modes table

module _ (most modes : ℕ) (table : List ℕ) where
  pub accepted_parts : tree_checked most modes table ≡ Ok tt → AcceptedParts most modes table
  unfolding tree_checked modes_good
  accepted_parts e =
      go (leb 1 modes && leb modes most) refl (eqb (length table) (3 * modes)) refl
      (ltb (codes_good modes table) (length table)) refl (one_tree modes table) refl (ltb (pairs_right modes table) modes) refl
    where
      go : (m : Bool) → (leb 1 modes && leb modes most) ≡ m → (w : Bool) → eqb (length table) (3 * modes) ≡ w
          → (g : Bool) → ltb (codes_good modes table) (length table) ≡ g → (o : Bool) → one_tree modes table ≡ o
          → (r : Bool) → ltb (pairs_right modes table) modes ≡ r → AcceptedParts most modes table
      go false em w ew g eg o eo r er = let f = rw em at e in let z : ◌≡◌ {A = ℕ} 0 1 = cc in absurd (omega arith)
      go true em false ew g eg o eo r er = let f = rw (em, ew) at e in let z : ◌≡◌ {A = ℕ} 0 1 = cc in absurd (omega arith)
      go true em true ew true eg o eo r er = let f = rw (em, ew, eg) at e in let z : ◌≡◌ {A = ℕ} 0 1 = cc in absurd (omega arith)
      go true em true ew false eg false eo r er = let f = rw (em, ew, eg, eo) at e in let z : ◌≡◌ {A = ℕ} 0 1 = cc in absurd (omega arith)
      go true em true ew false eg true eo true er = let f = rw (em, ew, eg, eo, er) at e in let z : ◌≡◌ {A = ℕ} 0 1 = cc in absurd (omega arith)
      go true em true ew false eg true eo false er =
          let p = (and-eq-true_iff (leb 1 modes) (leb modes most)).0 em in
          record {
            some = leb-true 1 modes p.0;
            few = leb-true modes most p.1;
            whole = eqb-true (length table) (3 * modes) ew;
            good = ltb-false (codes_good modes table) (length table) eg;
            one = eo;
            right = ltb-false (pairs_right modes table) modes er;
          }

  pub parts_accepted : AcceptedParts most modes table → tree_checked most modes table ≡ Ok tt
  unfolding tree_checked modes_good
  parts_accepted p =
      rw (
        le-leb 1 modes p.some,
        le-leb modes most p.few,
        eq-eqb (length table) (3 * modes) p.whole,
        le-ltb (codes_good modes table) (length table) p.good,
        p.one,
        le-ltb (pairs_right modes table) modes p.right,
      )
