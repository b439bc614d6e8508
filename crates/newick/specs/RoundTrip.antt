-- "Reading a written tree gives the tree, and writing a read text gives the text."
use Rattle.std.specs.Prelude.{◌≡◌, List, ℕ, ◌*◌, ◌≤◌, Ok}
use Rattle.tree.specs.Check.{tree_checked}
use Rattle.newick.specs.Writing.{newick_text}
use Rattle.newick.specs.Calls.{taken_as, newick_read, newick_table}

-- A tree's text is read back as that tree: its modes where the room is enough, else 5; and its table.
pub record ReadsBack (most modes : ℕ) (table : List ℕ) : Type 0 where
  pub answer : (room : ℕ) → newick_read most (newick_text modes table) room ≡ taken_as (Ok tt) modes room
  pub table_is : newick_table most (newick_text modes table) ≡ table

-- A text that was read is the writing of the tree that it was read as, which is accepted and fits.
pub record IsWritten (most : ℕ) (text : List ℕ) (room modes : ℕ) : Type 0 where
  pub accepted : tree_checked most modes (newick_table most text) ≡ Ok tt
  pub text_is : newick_text modes (newick_table most text) ≡ text
  pub roomy : 3 * modes ≤ room

-- A text is the writing of an accepted tree of so many modes.
pub record Writes (most : ℕ) (text : List ℕ) (modes : ℕ) : Type 0 where
  pub table : List ℕ
  pub accepted : tree_checked most modes table ≡ Ok tt
  pub text_is : newick_text modes table ≡ text

-- Of every accepted tree whose numbers a text can have.
abbrev pub WrittenIsRead : Type 0
WrittenIsRead =
    (most modes : ℕ) (table : List ℕ) → 3 * most ≤ 65535 → tree_checked most modes table ≡ Ok tt → ReadsBack most modes table

-- Of every text that is read.
abbrev pub ReadIsWritten : Type 0
ReadIsWritten =
    (most : ℕ) (text : List ℕ) (room modes : ℕ) → 3 * most ≤ 65535 → newick_read most text room ≡ Ok modes → IsWritten most text room modes

-- So, where the table fits, a text is read exactly where it is the writing of an accepted tree.
abbrev pub ReadsJustWritten : Type 0
ReadsJustWritten =
    (most : ℕ) (text : List ℕ) (room modes : ℕ) → 3 * most ≤ 65535 → 3 * modes ≤ room
    → (newick_read most text room ≡ Ok modes → Writes most text modes) × (Writes most text modes → newick_read most text room ≡ Ok modes)
