-- What `check` and `weigh` print for a tree of `node` lines: nothing, or its weight; or the refusal, as `hatt` prints it.
use Rattle.refusal.specs.declared.Refusal.{Refusal}
use Rattle.std.specs.Prelude.{◌≡◌, List, [], ◌∷◌, ℕ, ◌*◌, ◌≤◌, ◌<◌, length, get_or, Err, Ok, Result}
use Rattle.refusal.specs.declared.Refusal.TheVariants.{Malformed}
use Rattle.entities.specs.Codes.{absent}
use Rattle.fields.specs.Texts.{spelt}
use Rattle.fields.specs.Decimal.{decimal}
use Rattle.tree.specs.Laying.{modes_in, table_of}
use Rattle.tree.specs.Check.{tree_checked}
use Rattle.tree_weight.specs.Weight.{tree_weighed}
use Rattle.terms_text.specs.Input.{Said, given, malformed as terms_malformed, said}
use Rattle.text.specs.Running.{Rooms}
use Rattle.text.specs.Output.{line_of, node_lines, refusal_text}
use Rattle.nodes_text.specs.TreeInput.{TreeSaid, nodes, malformed, tree_said}

-- The check of what a text says: 18 before any other number.
unfoldable pub checked_as : ℕ → TreeSaid → Result (Unit {0}) Refusal
checked_as most (nodes rows) = tree_checked most (modes_in rows) (table_of rows)
checked_as most (malformed line) = Err (Malformed line)

-- `check` prints nothing, or the refusal.
unfoldable pub check_printed : Result (Unit {0}) Refusal → List ℕ
check_printed (Ok tt) = []
check_printed (Err refusal) = refusal_text refusal

unfoldable pub check_text : ℕ → List ℕ → List ℕ
check_text most tree = check_printed (checked_as most (tree_said most tree))

-- The weight of a table for what the terms' text says: 18 of the terms, and then as `tree_weight` refuses; a tree of another number of
-- nodes than the terms have modes is 13.
unfoldable pub weighed_with : ℕ → List ℕ → Said → Result ℕ Refusal
weighed_with most table (given modes numbers) = tree_weighed most modes table numbers
weighed_with most table (terms_malformed line) = Err (Malformed line)

-- 18 of the tree comes before all.
unfoldable pub weighed_as : ℕ → TreeSaid → Said → Result ℕ Refusal
weighed_as most (nodes rows) terms = weighed_with most (table_of rows) terms
weighed_as most (malformed line) terms = Err (Malformed line)

-- `weigh` prints `weight` and the tree weight, or the refusal.
unfoldable pub weight_line : ℕ → List ℕ
weight_line weight = line_of (spelt "weight" ∷ (decimal weight ∷ []))

unfoldable pub weigh_printed : Result ℕ Refusal → List ℕ
weigh_printed (Ok weight) = weight_line weight
weigh_printed (Err refusal) = refusal_text refusal

unfoldable pub weigh_text : Rooms → List ℕ → List ℕ → List ℕ
weigh_text rooms tree bytes =
    weigh_printed (weighed_as rooms.run.modes (tree_said rooms.run.modes tree) (said rooms.terms bytes))

-- What `hatt` and `assign` print of nodes is read back as those nodes.
abbrev pub NodesRead : Type 0
NodesRead =
    (most modes : ℕ) (rows : List ℕ) → 1 ≤ modes → modes ≤ most → length rows ≡ 4 * modes
    → ((place : ℕ) → place < length rows → get_or rows place 0 ≤ absent) → ((node : ℕ) → node < modes → get_or rows (4 * node) 0 < absent)
    → tree_said most (node_lines rows) ≡ nodes rows
