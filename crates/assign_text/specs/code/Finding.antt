-- What is printed of an assignment: as it was found, and as it is meant.
use Rattle.refusal.specs.declared.Refusal.{Refusal}
use Rattle.std.specs.Prelude.{List, ◌++◌, ℕ, Err, Ok, Result}
use Rattle.terms_text.specs.Input.{Said}
use Rattle.text.specs.Running.{program_rooms}
use Rattle.text.specs.Output.{node_lines, refusal_text}
use Rattle.tree_text.specs.Answers.{weight_line}
use Rattle.assign_text.specs.Assigning.{assign_rooms, assigned_with, assign_printed}

-- The weight and the rows that have the assigned children, or the refusal.
unfoldable pub found_text : Result ℕ Refusal → List ℕ → List ℕ
found_text (Ok weight) rows = weight_line weight ++ node_lines rows
found_text (Err refusal) rows = refusal_text refusal

-- What is to be printed for rows and their table, in the program's own rooms.
unfoldable pub meant_text : List ℕ → List ℕ → ℕ → ℕ → Said → List ℕ
meant_text rows table rule heuristic terms = assign_printed rows (assigned_with (assign_rooms program_rooms) rule heuristic table terms)
