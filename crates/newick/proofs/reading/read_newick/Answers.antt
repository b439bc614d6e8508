-- Where the text was read, its nodes are taken; else the refusal says where reading stopped.
use mathlib.Core.Path.{◌≡◌, ap, sym, ◌∙◌}
use mathlib.Core.List.{List}
use Prim.Native.Nat.{ℕ, ◌*◌, ◌≤◌}
use native.Mathlib.Omega.{arith}
use lib.ListN.{length, take}
use lib.Seq.{length-take-le}
use Rattle.refusal.proofs.Told.{tells, handed_on}
use Rattle.newick.specs.Reading.{got, text_read}
use Rattle.newick.specs.Calls.{table_after}
use Rattle.newick.proofs.PartsRead.{part_child, part_stopped}
use Rattle.newick.proofs.TreeTaken.{says_stopped, says_read, table_said}
use Rattle.newick.proofs.reading.read_newick.Goals as goal
use Rattle.newick.proofs.reading.read_newick.Goals.{In_ok-root}

-- Of the nodes that were read: how many, the numbers that they stand in front of, and the text.
abbrev count : In_ok-root → ℕ
count c = c.in_ok-root.root.closed

abbrev numbers : In_ok-root → List ℕ
numbers c = c.read_text.new.rows

abbrev text : In_ok-root → List ℕ
text c = c.args.text.now

nodes : (c : In_ok-root)
    → (text_read 256 (text c) ≡ got c.in_ok-root.root.name (take (4 * count c) (numbers c)) c.in_ok-root.root.end)
    × ((c.in_ok-root.root.end ≤ length (text c)) × (count c ≤ 256))
nodes c = part_child c.read_text.ensures c.in_ok-root.was

fits : (c : In_ok-root) → 4 * count c ≤ length (numbers c)
fits c = let size : length (numbers c) ≡ 1024 = c.read_text.auto.rows in omega (arith, (nodes c).1)

size : (c : In_ok-root) → length (take (4 * count c) (numbers c)) ≡ 4 * count c
size c = length-take-le (4 * count c) (numbers c) (fits c)

pub returns-in_err-root : goal.returns-in_err-root
unfolding table_after
returns-in_err-root c =
    let refused = handed_on c.from_residual.ensures in
    let was = part_stopped c.read_text.ensures c.in_err-root.was in
    record {
      tells = tells (refused ∙ says_stopped 256 c.args.text.now (length c.args.table.now) _ was);
      table_after = rw refused;
    }

pub overflow_mul-end : goal.overflow_mul-end
overflow_mul-end c = omega (arith, (nodes (goal.at.overflow_mul-end c).In_ok-root).1)

pub slice_bounds-rows-end : goal.slice_bounds-rows-end
slice_bounds-rows-end c = fits (goal.at.slice_bounds-rows-end c).In_ok-root

pub slice_bounds-take_tree-end : goal.slice_bounds-take_tree-end
slice_bounds-take_tree-end c = sym (size (goal.at.slice_bounds-take_tree-end c).In_ok-root)

pub take_tree-requires : goal.take_tree-requires
take_tree-requires c = ((nodes (goal.at.take_tree-requires c).In_ok-root).1.1, size (goal.at.take_tree-requires c).In_ok-root)

pub returns : goal.returns
returns c =
    let here = (goal.at.returns c).In_ok-root in
    let rows = take (4 * c.in_ok-root.root.closed) c.read_text.new.rows in
    let was = (nodes here).0 in
    let call = c.take_tree in
    record {
      tells = tells (call.ensures.by_index _ _ ∙ says_read 256 c.args.text.now _ rows _ was (length c.args.table.now));
      table_after =
          call.ensures.table_after ∙ ap (λ t. table_after call.result t c.args.table.now) (table_said 256 c.args.text.now _ rows _ was);
    }
