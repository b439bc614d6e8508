-- Any accepted tree's text has room, so the line that the code prints of a run's tree is the text and LF.
use Rattle.std.specs.Prelude.{Ok}
use mathlib.Core.Path.{◌≡◌}
use mathlib.Core.List.{List, []}
use Prim.Native.Nat.{ℕ, zero, suc, ◌+◌, ◌*◌, ◌<◌, ◌≤◌}
use native.Mathlib.Nat.{mul-suc}
use native.Mathlib.Omega.{arith}
use borrow.Author.Tests.{le-leb}
use lib.ListN.{length}
use Rattle.lists.proofs.Totals.{total}
use Rattle.lists.proofs.Sums.{sum_listed}
use Rattle.entities.specs.Limits.{most_modes}
use Rattle.fields.proofs.Digits.{few_digits}
use Rattle.terms_text.specs.Jobs.{Request}
use Rattle.tree.specs.Table.{nodes}
use Rattle.tree.specs.Check.{tree_checked}
use Rattle.tree.specs.Writing.{written_as, tree_written}
use Rattle.tree.proofs.AcceptedParts.{accepted_parts}
use Rattle.newick.specs.Writing.{newick_text, mode_length, text_length}
use Rattle.newick.specs.Calls.{newick_written}
use Rattle.newick.proofs.TextLength.{accepted_length}
use Rattle.text.specs.Running.{program_rooms, ran}
use Rattle.ran_tree.specs.Printing.{written_printed, tree_printed}
use Rattle.ran_tree.proofs.RunsAccepted.{printed_same}
use Rattle.newick_line.specs.NewickLine.{newick_line, newick_printed}
use Rattle.newick_line.specs.code.Lines.{table_line, line_room}

-- A total of so many values is at most as many times the most that each is.
total_most : (rule : ℕ → ℕ) (most count : ℕ) → ((k : ℕ) → k < count → rule k ≤ most) → total rule count ≤ most * count
unfolding total
total_most rule most zero h = omega arith
total_most rule most (suc count) h =
    omega (arith, mul-suc most count, h count (omega arith), total_most rule most count (λ k l. h k (omega arith)))

-- A mode adds seven bytes and three numbers of three digits at most.
mode_short : (mode : ℕ) → mode < most_modes → mode_length mode ≤ 16
unfolding mode_length
mode_short mode h =
    omega (arith, few_digits 2 mode (omega arith), few_digits 2 (2 * mode) (omega arith), few_digits 2 (2 * mode + 1) (omega arith))

text_short : (modes : ℕ) → modes ≤ most_modes → text_length modes ≤ line_room
unfolding text_length nodes
text_short modes few =
    omega (arith, sum_listed mode_length modes, total_most mode_length 16 modes (λ k h. mode_short k (omega arith)))

accepted_line : (modes : ℕ) (table : List ℕ) → tree_checked most_modes modes table ≡ Ok tt
    → table_line most_modes line_room modes table ≡ newick_line modes table
unfolding table_line newick_written tree_written written_as written_printed
accepted_line modes table accepted =
    let few = (accepted_parts most_modes modes table accepted).few in
    let size = accepted_length most_modes modes table (omega arith) accepted in
    let fits = le-leb (length (newick_text modes table)) line_room (omega (arith, text_short modes few)) in
    rw accepted (rw fits)

pub run_line : (asks : Request) → tree_printed (table_line most_modes line_room) (ran program_rooms asks []) ≡ newick_printed (ran program_rooms asks [])
unfolding newick_printed
run_line asks = printed_same program_rooms asks [] (table_line most_modes line_room) newick_line (omega arith) accepted_line
