-- A text names nodes, leaves and the absent child; which codes they have is known when all nodes are read.
use Rattle.std.specs.Prelude.{Bool, cond, ◌&&◌, ◌||◌, ℕ, ◌+◌, ◌-◌, ◌*◌, eqb, ltb, leb}
use Rattle.entities.specs.Codes.{absent}
use Rattle.newick.specs.Reading.{absent_name}

-- A name is a label below n, a leaf below 2n or the absent child's: else "a node or leaf number is out of range".
unfoldable pub in_range : ℕ → ℕ → Bool
in_range modes name = ltb name modes || ((leb 65536 name && ltb name (65536 + 2 * modes)) || eqb name absent_name)

-- A name's code in a table of n modes.
unfoldable pub code_of : ℕ → ℕ → ℕ
code_of modes name = cond (ltb name 65536) name (cond (eqb name absent_name) absent (modes + (name - 65536)))
