-- "reading gives 19 …, or 1 at a 257th `(` if that stands first; then 15, …, 16, and 5 where the table is below 3n; writing gives 1, 13 to
-- 16, then 5 where the text's exact length doesn't fit."
use Rattle.refusal.specs.declared.Refusal.{Refusal}
use Rattle.std.specs.Prelude.{cond, List, [], ◌∷◌, map, ℕ, ◌*◌, leb, Err, Ok, Result}
use Rattle.lists.specs.Members.{every}
use Rattle.lists.specs.Written.{written_at}
use Rattle.refusal.specs.declared.Refusal.TheVariants.{Room, NotOneTree, NewickForm, TooManyNodes}
use Rattle.refusal.specs.Numbers.{refused_numbers, done_numbers}
use Rattle.tree.specs.Check.{tree_checked}
use Rattle.tree.specs.Writing.{tree_written}
use Rattle.tree.specs.Laying.{laid, modes_in}
use Rattle.newick.specs.Writing.{newick_text}
use Rattle.newick.specs.Reading.{Reading, got, stuck, crowded, text_read}
use Rattle.newick.specs.Names.{in_range, code_of}

-- The call `write_newick` into so much room.
unfoldable pub newick_written : ℕ → ℕ → List ℕ → ℕ → Result ℕ Refusal
newick_written most modes table room = tree_written most modes table (newick_text modes table) room

-- The numbers of an answer to reading: refusal, place and the modes read.
unfoldable pub read_numbers : Result ℕ Refusal → List ℕ
read_numbers (Ok modes) = done_numbers (modes ∷ [])
read_numbers (Err refusal) = refused_numbers 1 refusal

-- The table that rows of names make.
unfoldable pub table_in : List ℕ → List ℕ
table_in rows = laid (modes_in rows) (map (code_of (modes_in rows)) rows)

-- Reading: the check's refusal, then 5.
unfoldable pub taken_as : Result (Unit {0}) Refusal → ℕ → ℕ → Result ℕ Refusal
taken_as (Ok tt) modes room = cond (leb (3 * modes) room) (Ok modes) (Err Room)
taken_as (Err refusal) modes room = Err refusal

-- Before them 19 or 1, and 15 for a number out of range.
unfoldable pub read_as : ℕ → Reading → ℕ → Result ℕ Refusal
read_as most (got name rows at) room =
    cond (every (in_range (modes_in rows)) rows)
    (taken_as (tree_checked most (modes_in rows) (table_in rows)) (modes_in rows) room)
    (Err NotOneTree)
read_as most (stuck place) room = Err (NewickForm place)
read_as most (crowded place) room = Err (TooManyNodes place)

-- The call `read_newick` into so much room.
unfoldable pub newick_read : ℕ → List ℕ → ℕ → Result ℕ Refusal
newick_read most text room = read_as most (text_read most text) room

-- The table that a text spells.
unfoldable pub table_read : Reading → List ℕ
table_read (got name rows at) = table_in rows
table_read (stuck place) = []
table_read (crowded place) = []

unfoldable pub newick_table : ℕ → List ℕ → List ℕ
newick_table most text = table_read (text_read most text)

-- The lent table after the call.
unfoldable pub table_after : Result ℕ Refusal → List ℕ → List ℕ → List ℕ
table_after (Ok modes) table before = written_at 0 table before
table_after (Err refusal) table before = before
