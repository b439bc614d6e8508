-- What `strings` prints: the strings of a tree of `node` lines, or of the tree that HATT builds of terms; or the refusal as `hatt` prints it.
use Rattle.std.specs.Prelude.{◌≡◌, List, [], ℕ}
use Rattle.refusal.specs.declared.Refusal.TheVariants.{Malformed, Room}
use Rattle.entities.specs.Limits.{most_modes}
use Rattle.tree.specs.Laying.{modes_in, table_of}
use Rattle.strings.specs.Text.{strings_text, strings_written}
use Rattle.nodes_text.specs.TreeInput.{TreeSaid, nodes, malformed, tree_said}
use Rattle.terms_text.specs.Jobs.{Request}
use Rattle.text.specs.Running.{Rooms, program_rooms, ran}
use Rattle.text.specs.Output.{refusal_text}
use Rattle.ran_tree.specs.Printing.{written_printed, tree_printed}

-- The bytes that there is room to print: those of the longest answer, the strings of the most modes.
abbrev pub strings_room : ℕ
strings_room = 133522

-- The strings of a table of at most so many modes.
unfoldable pub table_strings : ℕ → ℕ → List ℕ → List ℕ
table_strings most modes table = written_printed (strings_written most modes table strings_room) (strings_text modes table)

-- Those of the tree that HATT builds for what is asked, a rule and the text of terms. Every such tree is accepted (W-212), so no refusal is printed for it.
unfoldable pub hatt_strings_text : Rooms → Request → List ℕ
hatt_strings_text rooms asks = tree_printed strings_text (ran rooms asks [])

-- Those of a tree's text: 18 before any other number.
unfoldable pub strings_as : ℕ → TreeSaid → List ℕ
strings_as most (nodes rows) = table_strings most (modes_in rows) (table_of rows)
strings_as most (malformed line) = refusal_text (Malformed line)

unfoldable pub tree_strings_text : ℕ → List ℕ → List ℕ
tree_strings_text most tree = strings_as most (tree_said most tree)

-- 5 is never printed: whatever the text, there is room.
abbrev pub HattStringsSuffice : Type 0
HattStringsSuffice = (asks : Request) → hatt_strings_text program_rooms asks ≡ refusal_text Room → ⊥

abbrev pub TreeStringsSuffice : Type 0
TreeStringsSuffice = (tree : List ℕ) → tree_strings_text most_modes tree ≡ refusal_text Room → ⊥
