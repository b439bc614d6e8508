-- What `assign` prints for a tree of `node` lines: the sum of chosen weights and the nodes as assigned; or the refusal, as `hatt` prints it.
use Rattle.std.specs.Prelude.{◌≡◌, cond, ℕ, ◌*◌, get_or}
use mathlib.Core.List.{List, [], ◌∷◌, ◌++◌, flat_map}
use Rattle.lists.specs.Members.{alike}
use Rattle.refusal.specs.declared.Refusal.TheVariants.{Room, Malformed}
use Rattle.fields.specs.Texts.{spelt}
use Rattle.terms.specs.Rules.{rule_number}
use Rattle.terms.specs.Rows.{rows_of}
use Rattle.tree.specs.Table.{child}
use Rattle.tree.specs.Laying.{modes_in, table_of}
use Rattle.topphatt.specs.Answer.{Outcome, done, refused, asked, outcome, Rooms as AssignRooms}
use Rattle.terms_text.specs.Input.{Said, given, malformed as terms_malformed, said}
use Rattle.terms_text.specs.Jobs.{Request}
use Rattle.text.specs.Running.{Rooms, program_rooms}
use Rattle.text.specs.Output.{node_lines, refusal_text}
use Rattle.nodes_text.specs.TreeInput.{TreeSaid, nodes, malformed, tree_said}
use Rattle.tree_text.specs.Answers.{weight_line}

-- "heuristic not 0, 1, 2 (as listed above)": their names, in the order of the list; any other name is 3, which is refused by 17.
unfoldable pub heuristic_of : List ℕ → ℕ
heuristic_of name =
    cond (alike name (spelt "min_weight")) 0 (cond (alike name (spelt "x_first")) 1 (cond (alike name (spelt "z_first")) 2 3))

-- What an assignment has room for, where a run of the same rooms has it.
abbrev pub assign_rooms : Rooms → AssignRooms
assign_rooms rooms = record { modes = rooms.run.modes; work = rooms.run.work; table = 3 * rooms.run.modes }

-- Assigning on a table, by a rule and a heuristic, for what the terms' text says.
unfoldable pub assigned_with : AssignRooms → ℕ → ℕ → List ℕ → Said → Outcome
assigned_with rooms rule heuristic table (given modes numbers) = outcome rooms (asked modes rule table heuristic numbers)
assigned_with rooms rule heuristic table (terms_malformed line) = refused (Malformed line)

-- The row of a node in a table: label, X, Y, Z.
unfoldable pub row_in : List ℕ → ℕ → List ℕ
row_in table label = label ∷ (child table label 0 ∷ (child table label 1 ∷ (child table label 2 ∷ [])))

-- The rows of an assigned table, in the order in which the text has the nodes.
unfoldable pub assigned_rows : List ℕ → List ℕ → List ℕ
assigned_rows rows table = flat_map (λ row. row_in table (get_or row 0 0)) (rows_of 4 (modes_in rows) rows)

-- `assign` prints `weight`, the sum of chosen weights, and the nodes as assigned; or the refusal.
unfoldable pub assign_printed : List ℕ → Outcome → List ℕ
assign_printed rows (done count weight table) = weight_line weight ++ node_lines (assigned_rows rows table)
assign_printed rows (refused refusal) = refusal_text refusal

unfoldable pub assign_as : AssignRooms → ℕ → ℕ → TreeSaid → Said → List ℕ
assign_as rooms rule heuristic (nodes rows) terms = assign_printed rows (assigned_with rooms rule heuristic (table_of rows) terms)
assign_as rooms rule heuristic (malformed line) terms = refusal_text (Malformed line)

unfoldable pub assign_text : Rooms → List ℕ → List ℕ → Request → List ℕ
assign_text rooms tree name asks =
    assign_as (assign_rooms rooms) (rule_number asks.rule) (heuristic_of name) (tree_said rooms.run.modes tree)
    (said rooms.terms asks.text)

-- 5 is never printed: whatever the texts, the program's own rooms suffice.
abbrev pub AssignSuffices : Type 0
AssignSuffices = (tree name : List ℕ) (asks : Request) → assign_text program_rooms tree name asks ≡ refusal_text Room → ⊥
