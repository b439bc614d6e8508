-- How the code counts nodes: `height` is how many nodes a text may have less those that stand around this one, and a node is one too many
-- where as many are closed already.
use Rattle.std.specs.Prelude.{cond, List, [], ℕ, zero, suc, ◌*◌, ltb, length}
use Prim.Native.Char.{code}
use Rattle.newick.specs.Reading.{Reading, crowded, expected, marked, child_by, inside}

unfoldable pub node_within : ℕ → List ℕ → List ℕ → ℕ → Reading
node_within zero text rows at = expected (code "(") text at (crowded at)
node_within (suc height) text rows at =
    expected (code "(") text at
    (cond (ltb (length rows) (4 * suc height)) (inside (child_by (node_within height text) text) text rows (suc at)) (crowded at))

unfoldable pub child_within : ℕ → List ℕ → List ℕ → ℕ → Reading
child_within height text rows at = child_by (node_within height text) text rows at

-- The root and the `;` behind it.
abbrev pub root_within : ℕ → List ℕ → Reading
root_within most text = marked (code ";") text (node_within most text [] 0)
