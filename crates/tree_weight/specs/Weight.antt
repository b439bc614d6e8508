-- "For an accepted tree: over every listed row and every node, 1 where the parities of the row's indices under X, Y, Z aren't all equal"; 02: rows that are the same operator count once.
use Rattle.refusal.specs.declared.Refusal.{Refusal}
use Rattle.std.specs.Prelude.{◌≡◌, cond, ◌&&◌, List, [], ◌∷◌, map, ℕ, zero, suc, ◌+◌, ◌*◌, ◌%◌, ◌/◌, eqb, ltb, length, Err, Ok, Result}
use Rattle.lists.specs.Counting.{sum, occurrences}
use Rattle.refusal.specs.Numbers.{refused_numbers, done_numbers}
use Rattle.entities.specs.Limits.{row_width}
use Rattle.terms.specs.Rows.{terms_of}
use Rattle.terms.specs.Good.{checked}
use Rattle.terms.specs.Letters.{counted_letter, not_none}
use Rattle.terms.specs.declared.letters.Letter.{Letter}
use Rattle.tree.specs.Table.{nodes, place_of_code}
use Rattle.tree.specs.Check.{tree_checked}
use Rattle.tree_weight.specs.Operators.{operators}

-- The edge of a node under which a code stands, 0, 1 or 2, found by climbing; 3 where it stands under none.
unfoldable pub edge_under : List ℕ → ℕ → ℕ → ℕ → ℕ
edge_under table zero node code = 3
edge_under table (suc steps) node code =
    let place = place_of_code table code in
    let above = edge_under table steps node (place / 3) in
    cond (ltb place (length table)) (cond (eqb (place / 3) node) (place % 3) above) 3

-- The edges of a node under which the row's indices stand.
unfoldable pub edges : ℕ → List ℕ → ℕ → List ℕ → List ℕ
edges modes table node term = map (λ index. edge_under table (suc modes) node (modes + index)) term

-- The letter of one row at one node: that of how many of its indices stand under X, Y and Z.
unfoldable pub node_letter : ℕ → List ℕ → List ℕ → ℕ → Letter
node_letter modes table term node =
    let under = edges modes table node term in
    counted_letter (occurrences 0 under) (occurrences 1 under) (occurrences 2 under)

-- The weight of one row at one node.
unfoldable pub node_weight : ℕ → List ℕ → List ℕ → ℕ → ℕ
node_weight modes table term node = not_none (node_letter modes table term node)

-- No weight of a node changes: it is, as document 01 has it, "1 where the parities of the row's indices under X, Y, Z aren't all equal".
abbrev pub NoNodeWeightChanges : Type 0
NoNodeWeightChanges =
    (modes : ℕ) (table term : List ℕ) (node : ℕ)
    → let parity : ℕ → ℕ = λ edge. occurrences edge (edges modes table node term) % 2 in
    node_weight modes table term node ≡ cond (eqb (parity 0) (parity 1) && eqb (parity 1) (parity 2)) 0 1

-- "over … every node".
unfoldable pub row_weight : ℕ → List ℕ → List ℕ → ℕ
row_weight modes table term = sum (map (node_weight modes table term) (nodes modes))

-- "over every listed row", as document 01 counted.
unfoldable pub listed_weight : ℕ → List ℕ → List (List ℕ) → ℕ
listed_weight modes table terms = sum (map (row_weight modes table) terms)

-- "Tree weight in 01 counts listings; from now on it counts each operator once."
unfoldable pub tree_weight : ℕ → List ℕ → List (List ℕ) → ℕ
tree_weight modes table terms = sum (map (row_weight modes table) (operators (2 * modes) terms))

-- The weight where the terms are good too: "Tree weight continues 2, 3, 4."
unfoldable pub weighed_terms : ℕ → List ℕ → List ℕ → Result ℕ Refusal → Result ℕ Refusal
weighed_terms modes table numbers (Ok count) = Ok (tree_weight modes table (terms_of row_width count numbers))
weighed_terms modes table numbers (Err refusal) = Err refusal

-- 1 and 13 to 16 of the tree.
unfoldable pub weighed_tree : ℕ → List ℕ → List ℕ → Result (Unit {0}) Refusal → Result ℕ Refusal
weighed_tree modes table numbers (Ok tt) = weighed_terms modes table numbers (checked modes numbers)
weighed_tree modes table numbers (Err refusal) = Err refusal

-- The meaning of `tree_weight`.
unfoldable pub tree_weighed : ℕ → ℕ → List ℕ → List ℕ → Result ℕ Refusal
tree_weighed most modes table numbers = weighed_tree modes table numbers (tree_checked most modes table)

-- The numbers of an answer: refusal, place, weight.
unfoldable pub weight_numbers : Result ℕ Refusal → List ℕ
weight_numbers (Ok weight) = done_numbers (weight ∷ [])
weight_numbers (Err refusal) = refused_numbers 1 refusal
