-- What is printed of a tree that was read into the front of a table, or of why it was not.
use Rattle.std.specs.Prelude.{List, ℕ, ◌*◌, take, Err, Ok, Result}
use Rattle.refusal.specs.declared.Refusal.{Refusal}
use Rattle.entities.specs.Limits.{most_modes}
use Rattle.text.specs.Output.{refusal_text}
use Rattle.strings_text.specs.Printing.{table_strings}

unfoldable pub read_strings : Result ℕ Refusal → List ℕ → List ℕ
read_strings (Ok modes) table = table_strings most_modes modes (take (3 * modes) table)
read_strings (Err refusal) table = refusal_text refusal
