-- The strings of any accepted tree have room, so 5 is never what `strings` prints.
use Rattle.std.specs.Prelude.{Err, Ok, Result}
use Rattle.refusal.specs.declared.Refusal.{Refusal}
use mathlib.Core.Path.{◌≡◌, refl, ap}
use mathlib.Core.List.{List, [], flat_map}
use Prim.Native.Nat.{ℕ, zero, suc, ◌+◌, ◌-◌, ◌*◌, ◌≤◌}
use native.Mathlib.Omega.{arith}
use borrow.Author.Tests.{le-leb}
use lib.ListN.{length, get_or}
use Rattle.lists.specs.Ranges.{listed}
use Rattle.lists.proofs.Pigeonholes.{total_at_most, total_more}
use Rattle.lists.proofs.Sums.{sum_listed}
use Rattle.lists.proofs.Totals.{total}
use Rattle.refusal.specs.declared.Refusal.TheVariants.{Room}
use Rattle.entities.specs.Limits.{most_modes}
use Rattle.fields.specs.Decimal.{digits, decimal}
use Rattle.fields.specs.Fields.{tabbed}
use Rattle.tree.specs.Check.{tree_checked}
use Rattle.tree.specs.Writing.{written_as, tree_written}
use Rattle.tree.specs.Laying.{modes_in, table_of}
use Rattle.tree.proofs.AcceptedParts.{accepted_parts}
use Rattle.strings.specs.Text.{string_line, majoranas, strings_text, line_length, strings_length, strings_written}
use Rattle.strings.proofs.LinesWritten.{text_long}
use Rattle.journal.specs.Resuming.{Outcome, done, refuses}
use Rattle.nodes_text.specs.TreeInput.{TreeSaid, nodes, malformed, tree_said}
use Rattle.terms_text.specs.Jobs.{Request}
use Rattle.text.specs.Running.{program_rooms, ran}
use Rattle.text.specs.Output.{line_of, refusal_text}
use Rattle.text.proofs.RoomSuffices.{refusal_five, number_in, ran_never}
use Rattle.ran_tree.specs.Printing.{written_printed, tree_printed}
use Rattle.ran_tree.proofs.RunsAccepted.{printed_same}
use Rattle.ran_tree.proofs.WritingNever.{number_written, writing_never}
use Rattle.strings_text.specs.Printing.{strings_room, table_strings, hatt_strings_text, strings_as, tree_strings_text, HattStringsSuffice, TreeStringsSuffice}

-- The longest text is that of the most modes.
longest : total (line_length most_modes) (2 * most_modes) ≡ strings_room
unfolding total line_length decimal digits
longest = refl

text_short : (modes : ℕ) → modes ≤ most_modes → strings_length modes ≤ strings_room
unfolding strings_length majoranas line_length
text_short modes few =
    let each = total_at_most (line_length modes) (line_length most_modes) (2 * modes) (λ majorana h. omega arith) in
    let all : 2 * modes + (2 * most_modes - 2 * modes) ≡ 2 * most_modes = omega arith in
    let further = rw all at (total_more (line_length most_modes) (2 * modes) (2 * most_modes - 2 * modes)) in
    omega (arith, sum_listed (line_length modes) (2 * modes), each, further, longest)

strings_never : (modes : ℕ) (table : List ℕ) → number_written (strings_written most_modes modes table strings_room) ≡ 5 → ⊥
unfolding strings_written
strings_never modes table =
    writing_never most_modes modes table (strings_text modes table) strings_room
    (λ accepted.
    let few = (accepted_parts most_modes modes table accepted).few in
    omega (arith, text_long modes table, text_short modes few))

-- An accepted tree's strings are printed, and so are those of a run's tree.
accepted_strings : (modes : ℕ) (table : List ℕ) → tree_checked most_modes modes table ≡ Ok tt
    → table_strings most_modes modes table ≡ strings_text modes table
unfolding table_strings strings_written tree_written written_as written_printed
accepted_strings modes table accepted =
    let few = (accepted_parts most_modes modes table accepted).few in
    let fits = le-leb (length (strings_text modes table)) strings_room (omega (arith, text_long modes table, text_short modes few)) in
    rw accepted (rw fits)

pub run_strings : (asks : Request) → tree_printed (table_strings most_modes) (ran program_rooms asks []) ≡ hatt_strings_text program_rooms asks
unfolding hatt_strings_text
run_strings asks = printed_same program_rooms asks [] (table_strings most_modes) strings_text (omega arith) accepted_strings

-- Strings begin otherwise than a refusal does: with the number 0, or not at all.
first_byte : (modes : ℕ) (table : List ℕ) → get_or (strings_text modes table) 0 0 ≡ 114 → ⊥
unfolding strings_text majoranas listed string_line decimal digits flat_map
first_byte zero table e = omega arith
first_byte (suc modes) table e =
    let e2 : 2 * suc modes ≡ suc (suc (2 * modes)) = omega arith in
    omega (arith, rw e2 at e)

-- Where the text of 5 is printed, writing ended with it.
five_written : (modes : ℕ) (table : List ℕ) (written : Result ℕ Refusal) → written_printed written (strings_text modes table) ≡ refusal_text Room
    → number_written written ≡ 5
unfolding number_written written_printed refusal_text line_of tabbed
five_written modes table (Ok count) e = absurd (first_byte modes table (ap (λ text. get_or text 0 0) e))
five_written modes table (Err refusal) e = refusal_five refusal e

table_never : (modes : ℕ) (table : List ℕ) → table_strings most_modes modes table ≡ refusal_text Room → ⊥
unfolding table_strings
table_never modes table e = strings_never modes table (five_written modes table (strings_written most_modes modes table strings_room) e)

-- The theorems: 5 is never printed.
pub hatt_strings_suffice : HattStringsSuffice
unfolding hatt_strings_text tree_printed number_in refusal_text line_of tabbed
hatt_strings_suffice asks = go (ran program_rooms asks []) refl
  where
    go : (end : Outcome) → ran program_rooms asks [] ≡ end → tree_printed strings_text end ≡ refusal_text Room → ⊥
    go (done ending) f e = first_byte (modes_in ending.rows) (table_of ending.rows) (ap (λ text. get_or text 0 0) e)
    go (refuses refusal) f e = ran_never asks [] (rw f (refusal_five refusal e))

pub tree_strings_suffice : TreeStringsSuffice
unfolding tree_strings_text strings_as
tree_strings_suffice tree = go (tree_said most_modes tree)
  where
    go : (says : TreeSaid) → strings_as most_modes says ≡ refusal_text Room → ⊥
    go (nodes rows) e = table_never (modes_in rows) (table_of rows) e
    go (malformed line) e = absurd (omega (arith, refusal_five _ e))
