-- What is printed of the tree that a run ends in: a text of it, or a refusal as `hatt` prints it.
use Rattle.refusal.specs.declared.Refusal.{Refusal}
use Rattle.std.specs.Prelude.{List, ℕ, Err, Ok, Result}
use Rattle.tree.specs.Laying.{modes_in, table_of}
use Rattle.journal.specs.Resuming.{Outcome, done, refuses}
use Rattle.text.specs.Output.{refusal_text}

-- What writing a tree came to, printed: this text, or the refusal.
unfoldable pub written_printed : Result ℕ Refusal → List ℕ → List ℕ
written_printed (Ok count) text = text
written_printed (Err refusal) text = refusal_text refusal

-- What a run prints, by what is printed of a table of so many modes: that of its rows laid out by label, or its refusal.
unfoldable pub tree_printed : (ℕ → List ℕ → List ℕ) → Outcome → List ℕ
tree_printed of_table (done ending) = of_table (modes_in ending.rows) (table_of ending.rows)
tree_printed of_table (refuses refusal) = refusal_text refusal
