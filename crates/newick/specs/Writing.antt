-- "Write an accepted tree as Newick text": the tree under a table's root, spelled.
use Rattle.std.specs.Prelude.{cond, List, ◌++◌, map, ℕ, zero, suc, ◌+◌, ◌-◌, ◌*◌, eqb, ltb, length}
use Rattle.lists.specs.Counting.{sum}
use Rattle.entities.specs.Codes.{absent}
use Rattle.fields.specs.Texts.{spelt}
use Rattle.fields.specs.Decimal.{decimal}
use Rattle.tree.specs.Table.{nodes, child}
use Rattle.tree.specs.OneTree.{root_of}
use Rattle.newick.specs.Grammar.{Shape, leaf, none, node, spelled}

-- A code that is no node's: the absent child, or a leaf, whose code is its number and n.
unfoldable pub end_shape : ℕ → ℕ → Shape
end_shape modes code = cond (eqb code absent) none (leaf (code - modes))

-- The tree under a code, through at most so many nodes.
unfoldable pub shape_under : ℕ → List ℕ → ℕ → ℕ → Shape
shape_under modes table zero code = cond (ltb code modes) none (end_shape modes code)
shape_under modes table (suc nodes) code =
    cond (ltb code modes)
    (node (shape_under modes table nodes (child table code 0)) (shape_under modes table nodes (child table code 1))
    (shape_under modes table nodes (child table code 2))
    code)
    (end_shape modes code)

-- The text of a table.
unfoldable pub newick_text : ℕ → List ℕ → List ℕ
newick_text modes table = spelled (shape_under modes table (suc modes) (root_of modes table)) ++ spelt ";"

-- "the text's exact length", which each accepted tree of n nodes has: `(`, `,`, `,`, `)` and a name for each node, a name for each of its
-- two leaves, `e` and `;`.
unfoldable pub mode_length : ℕ → ℕ
mode_length mode = 7 + (length (decimal mode) + (length (decimal (2 * mode)) + length (decimal (2 * mode + 1))))

unfoldable pub text_length : ℕ → ℕ
text_length modes = 2 + sum (map mode_length (nodes modes))
