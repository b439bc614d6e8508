-- "the Pauli string of each Majorana 0..2n-1 …: n letters I, X, Y, Z by node label."
use Rattle.std.specs.Prelude.{List, map, ℕ, zero, suc, ◌+◌}
use Rattle.terms.specs.declared.letters.Letter.{Letter}
use Rattle.terms.specs.declared.letters.Letter.TheVariants.{Nothing, X, Y, Z}
use Rattle.tree.specs.Table.{nodes}
use Rattle.tree_weight.specs.Weight.{edge_under}

-- "on the path the letter of the edge taken": X of edge 0, Y of 1, Z of 2; no letter, which is written I, where there is no such edge.
unfoldable pub edge_letter : ℕ → Letter
edge_letter zero = X
edge_letter (suc zero) = Y
edge_letter (suc (suc zero)) = Z
edge_letter (suc (suc (suc more))) = Nothing

-- The letter of a Majorana at a node: "A node off the leaf's path gives I".
unfoldable pub majorana_letter : ℕ → List ℕ → ℕ → ℕ → Letter
majorana_letter modes table majorana node = edge_letter (edge_under table (suc modes) node (modes + majorana))

-- "n letters … by node label".
unfoldable pub string : ℕ → List ℕ → ℕ → List Letter
string modes table majorana = map (majorana_letter modes table majorana) (nodes modes)
