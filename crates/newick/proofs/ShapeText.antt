-- The text under a code: a leaf or the absent child, the absent child where no height is left, or a node; and how long a node's text is.
use mathlib.Core.Path.{◌≡◌}
use mathlib.Core.List.{List, [], ◌∷◌, ◌++◌}
use Prim.Native.Nat.{ℕ, zero, suc, ◌+◌, ◌-◌, ◌<◌, ◌≤◌}
use borrow.Author.Tests.{eq-eqb, ne_eqb, lt-ltb, le-ltb}
use lib.ListN.{length}
use Rattle.entities.specs.Codes.{absent}
use Rattle.fields.specs.Decimal.{decimal}
use Rattle.tree.specs.Table.{child}
use Rattle.newick.specs.Grammar.{node, spelled}
use Rattle.newick.specs.Writing.{end_shape, shape_under}
use Rattle.newick.proofs.NodeText.{node_length}

pub end_absent : (modes code : ℕ) → code ≡ absent → spelled (end_shape modes code) ≡ 101 ∷ []
unfolding end_shape spelled
end_absent modes code e = rw (eq-eqb code absent e)

pub end_leaf : (modes code : ℕ) → (code ≡ absent → ⊥) → spelled (end_shape modes code) ≡ 109 ∷ decimal (code - modes)
unfolding end_shape spelled
end_leaf modes code h = rw (ne_eqb code absent h)

module _ (modes : ℕ) (table : List ℕ) where
  pub shape_end : (height code : ℕ) → modes ≤ code → shape_under modes table height code ≡ end_shape modes code
  unfolding shape_under
  shape_end zero code h = rw (le-ltb code modes h)
  shape_end (suc height) code h = rw (le-ltb code modes h)

  pub shape_node : (height code : ℕ) → code < modes
      → shape_under modes table (suc height) code
      ≡ node (shape_under modes table height (child table code 0)) (shape_under modes table height (child table code 1))
      (shape_under modes table height (child table code 2)) code
  unfolding shape_under
  shape_node height code h = rw (lt-ltb code modes h)

  pub shape_none : (height code : ℕ) → height ≡ 0 → code < modes → spelled (shape_under modes table height code) ≡ 101 ∷ []
  unfolding shape_under spelled
  shape_none height code e h = rw e (rw (lt-ltb code modes h))

-- The text of a node's child.
abbrev child_text : ℕ → List ℕ → ℕ → ℕ → ℕ → List ℕ
child_text modes table height code edge = spelled (shape_under modes table height (child table code edge))

module _ (modes : ℕ) (table : List ℕ) (height code : ℕ) (below : code < modes) where
  pub node_text : spelled (shape_under modes table (suc height) code)
      ≡ 40
      ∷ (child_text modes table height code 0
      ++ (44
      ∷ (child_text modes table height code 1 ++ (44 ∷ (child_text modes table height code 2 ++ (41 ∷ (110 ∷ decimal code)))))))
  unfolding spelled
  node_text = rw (shape_node modes table height code below)

  pub under_length : length (spelled (shape_under modes table (suc height) code))
      ≡ 5
      + (length (child_text modes table height code 0)
      + (length (child_text modes table height code 1) + (length (child_text modes table height code 2) + length (decimal code))))
  under_length = rw (shape_node modes table height code below) (node_length _ _ _ code)
