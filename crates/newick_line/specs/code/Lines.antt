-- What the code prints of any table: its line, or the refusal of writing it.
use Rattle.std.specs.Prelude.{List, ℕ, ◌-◌}
use Rattle.newick.specs.Calls.{newick_written}
use Rattle.text.specs.Running.{printed_room}
use Rattle.ran_tree.specs.Printing.{written_printed}
use Rattle.newick_line.specs.NewickLine.{newick_line}

-- The line of a table of at most so many modes, with room for a text of so many bytes.
unfoldable pub table_line : ℕ → ℕ → ℕ → List ℕ → List ℕ
table_line most room modes table = written_printed (newick_written most modes table room) (newick_line modes table)

-- The room for the line's text: a byte less than there is to print, for the LF.
abbrev pub line_room : ℕ
line_room = printed_room - 1
