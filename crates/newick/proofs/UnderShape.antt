-- The shape under a code of a table: its numbers are in range, its nodes stand in the table, and each is met as often as going down meets it.
use mathlib.Core.Path.{◌≡◌, refl, ◌∙◌, sym}
use mathlib.Core.Bool.{Bool, true, false, cond, and-eq-true_iff}
use mathlib.Core.Logic.{◌⊎◌, inl, inr}
use mathlib.Core.List.{List, [], ◌∷◌, ◌++◌}
use Prim.Native.Nat.{ℕ, zero, suc, ◌+◌, ◌*◌, ◌<◌, ◌≤◌}
use native.Mathlib.Omega.{arith}
use borrow.Author.Tests.{eqb-true, eqb-false, leb-true, ltb-true, ltb-false}
use lib.Dec.{eqb, ltb}
use lib.ListN.{length, get_or}
use Rattle.lists.specs.Counting.{occurrences}
use Rattle.lists.proofs.Tests.{either}
use Rattle.lists.proofs.Sums.{same_none, occurrences_append}
use Rattle.entities.specs.Codes.{absent}
use Rattle.tree.specs.Table.{child}
use Rattle.tree.specs.Check.{codes_good}
use Rattle.tree.proofs.TableSteps.{code_good}
use Rattle.tree.proofs.Under.{met, met_leaf, met_none, met_node}
use Rattle.newick.specs.Grammar.{Shape, none, node}
use Rattle.newick.specs.Writing.{end_shape, shape_under}
use Rattle.newick.proofs.WholeUnder.{whole_under}
use Rattle.newick.proofs.ShapeText.{shape_end, shape_node}
use Rattle.newick.proofs.ShapeRows.{labels_in, code_in, Within, Stands}

-- The shape under a code is in range, stands in the table and has the code.
pub record UnderShape (modes : ℕ) (table : List ℕ) (code : ℕ) (shape : Shape) : Type 0 where
  pub within : Within modes shape
  pub stands : Stands modes table shape
  pub code_is : code_in modes shape ≡ code

end_labels : (modes code : ℕ) → labels_in (end_shape modes code) ≡ []
unfolding end_shape labels_in
end_labels modes code = go (eqb code absent) refl
  where
    go : (b : Bool) → eqb code absent ≡ b → labels_in (end_shape modes code) ≡ []
    go true q = rw q
    go false q = rw q

end_met : (modes : ℕ) (table : List ℕ) (height code label : ℕ) → modes ≤ code → label < modes
    → occurrences label (labels_in (end_shape modes code)) ≡ met modes table height code label
unfolding occurrences
end_met modes table height code label high low =
    rw (end_labels modes code)
    (sym (met_leaf modes table height code label high ∙ same_none code label (λ e. absurd (omega arith))))

-- A leaf or the absent child.
end_under : (modes : ℕ) (table : List ℕ) (code : ℕ) → modes ≤ code → (code < 3 * modes) ⊎ (code ≡ absent)
    → UnderShape modes table code (end_shape modes code)
unfolding end_shape Within Stands code_in
end_under modes table code h good = go (eqb code absent) refl
  where
    low : (eqb code absent ≡ false) → (code < 3 * modes) ⊎ (code ≡ absent) → code < 3 * modes
    low q (inl k) = k
    low q (inr e) = absurd (eqb-false code absent q e)

    go : (b : Bool) → eqb code absent ≡ b → UnderShape modes table code (end_shape modes code)
    go true q = rw q (record { within = tt; stands = tt; code_is = sym (eqb-true code absent q) })
    go false q =
        let k = low q good in
        rw q (record { within = omega arith; stands = tt; code_is = omega arith })

module _ (modes : ℕ) (table : List ℕ) where
  -- How often a label is met.
  pub labels_met : (height code label : ℕ) → label < modes
      → occurrences label (labels_in (shape_under modes table height code)) ≡ met modes table height code label
  unfolding labels_in occurrences shape_under
  labels_met zero code label low = go (ltb code modes) refl
    where
      go : (b : Bool) → ltb code modes ≡ b → occurrences label (labels_in (cond b none (end_shape modes code))) ≡ met modes table 0 code label
      go true q = sym (met_none modes table code label (ltb-true code modes q))
      go false q = end_met modes table 0 code label (ltb-false code modes q) low
  labels_met (suc height) code label low =
      go (ltb code modes) refl (labels_met height (child table code 0) label low) (labels_met height (child table code 1) label low)
      (labels_met height (child table code 2) label low)
    where
      x : Shape
      x = shape_under modes table height (child table code 0)

      y : Shape
      y = shape_under modes table height (child table code 1)

      z : Shape
      z = shape_under modes table height (child table code 2)

      go : (b : Bool) → ltb code modes ≡ b → occurrences label (labels_in x) ≡ met modes table height (child table code 0) label
          → occurrences label (labels_in y) ≡ met modes table height (child table code 1) label
          → occurrences label (labels_in z) ≡ met modes table height (child table code 2) label
          → occurrences label (labels_in (cond b (node x y z code) (end_shape modes code))) ≡ met modes table (suc height) code label
      go true q p r t =
          omega (
            arith,
            met_node modes table height code label (ltb-true code modes q),
            occurrences_append label (labels_in x) (labels_in y ++ (labels_in z ++ (code ∷ []))),
            occurrences_append label (labels_in y) (labels_in z ++ (code ∷ [])),
            occurrences_append label (labels_in z) (code ∷ []),
          )
      go false q p r t = end_met modes table (suc height) code label (ltb-false code modes q) low

  module _ (whole : length table ≡ 3 * modes) (good : length table ≤ codes_good modes table) where
    child_good : (label edge : ℕ) → label < modes → edge < 3 → (child table label edge < 3 * modes) ⊎ (child table label edge ≡ absent)
    unfolding child
    child_good label edge h k =
        let place = 3 * label + edge in
        go (either (ltb (get_or table place absent) (3 * modes)) (eqb (get_or table place absent) absent) (code_good modes table good place (omega arith)))
      where
        go : (ltb (get_or table (3 * label + edge) absent) (3 * modes) ≡ true) ⊎ (eqb (get_or table (3 * label + edge) absent) absent ≡ true)
            → (get_or table (3 * label + edge) absent < 3 * modes) ⊎ (get_or table (3 * label + edge) absent ≡ absent)
        go (inl q) = inl (ltb-true (get_or table (3 * label + edge) absent) (3 * modes) q)
        go (inr q) = inr (eqb-true (get_or table (3 * label + edge) absent) absent q)

    pub under_shape : (height code : ℕ) → whole_under modes table height code ≡ true → (code < 3 * modes) ⊎ (code ≡ absent)
        → UnderShape modes table code (shape_under modes table height code)
    unfolding whole_under Within Stands code_in
    under_shape zero code tall fits =
        let high = leb-true modes code tall in
        rw (shape_end modes table 0 code high) (end_under modes table code high fits)
    under_shape (suc height) code tall fits =
        go (ltb code modes) refl tall (under_shape height (child table code 0)) (under_shape height (child table code 1))
        (under_shape height (child table code 2))
      where
        go : (b : Bool) → ltb code modes ≡ b → whole_under modes table (suc height) code ≡ true
            → (whole_under modes table height (child table code 0) ≡ true → (child table code 0 < 3 * modes) ⊎ (child table code 0 ≡ absent)
            → UnderShape modes table (child table code 0) (shape_under modes table height (child table code 0)))
            → (whole_under modes table height (child table code 1) ≡ true → (child table code 1 < 3 * modes) ⊎ (child table code 1 ≡ absent)
            → UnderShape modes table (child table code 1) (shape_under modes table height (child table code 1)))
            → (whole_under modes table height (child table code 2) ≡ true → (child table code 2 < 3 * modes) ⊎ (child table code 2 ≡ absent)
            → UnderShape modes table (child table code 2) (shape_under modes table height (child table code 2)))
            → UnderShape modes table code (shape_under modes table (suc height) code)
        go false q tall x y z =
            let high = ltb-false code modes q in
            rw (shape_end modes table (suc height) code high) (end_under modes table code high fits)
        go true q tall x y z =
            let h = ltb-true code modes q in
            let parts = (and-eq-true_iff (whole_under modes table height (child table code 0)) _).0 (rw q at tall) in
            let more = (and-eq-true_iff (whole_under modes table height (child table code 1)) _).0 parts.1 in
            let a = x parts.0 (child_good code 0 h (omega arith)) in
            let b = y more.0 (child_good code 1 h (omega arith)) in
            let c = z more.1 (child_good code 2 h (omega arith)) in
            rw (shape_node modes table height code h)
            (record {
              within = (h, a.within, b.within, c.within);
              stands = (record { x_is = sym a.code_is; y_is = sym b.code_is; z_is = sym c.code_is }, a.stands, b.stands, c.stands);
              code_is = refl;
            })
