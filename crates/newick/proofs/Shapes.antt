-- A shape's name and the rows of its nodes, as a reader meets them: children before their node.
use mathlib.Core.List.{List, [], ◌∷◌, ◌++◌}
use Prim.Native.Nat.{ℕ}
use Rattle.newick.specs.Grammar.{Shape, leaf, none, node}
use Rattle.newick.specs.Reading.{leaf_name, absent_name}

unfoldable pub name_of : Shape → ℕ
name_of (leaf number) = leaf_name number
name_of none = absent_name
name_of (node x y z label) = label

unfoldable pub rows_in : Shape → List ℕ
rows_in (leaf number) = []
rows_in none = []
rows_in (node x y z label) =
    rows_in x ++ (rows_in y ++ (rows_in z ++ (label ∷ (name_of x ∷ (name_of y ∷ (name_of z ∷ []))))))
