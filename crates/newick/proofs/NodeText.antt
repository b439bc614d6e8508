-- A node's text, mark by mark, and how long it is.
use mathlib.Core.Path.{◌≡◌}
use mathlib.Core.List.{List, ◌∷◌, ◌++◌, append_assoc}
use Prim.Native.Nat.{ℕ, ◌+◌}
use native.Mathlib.Omega.{arith}
use lib.ListN.{length, length-append}
use Rattle.fields.specs.Decimal.{decimal}
use Rattle.newick.specs.Grammar.{Shape, node, spelled}

-- What a node's text says ahead, mark by mark.
pub node_ahead : (x y z : Shape) (label : ℕ) (rest : List ℕ)
    → spelled (node x y z label) ++ rest
    ≡ 40 ∷ (spelled x ++ (44 ∷ (spelled y ++ (44 ∷ (spelled z ++ (41 ∷ (110 ∷ (decimal label ++ rest))))))))
unfolding spelled
node_ahead x y z label rest = simp append_assoc

-- Its four marks, `n`, its label and its children.
pub node_length : (x y z : Shape) (label : ℕ)
    → length (spelled (node x y z label)) ≡ 5 + (length (spelled x) + (length (spelled y) + (length (spelled z) + length (decimal label))))
unfolding spelled
node_length x y z label = simp length-append (omega arith)
