-- The number with its tab, the letters and LF, one behind the other.
use Prim.Native.Nat.{◌+◌, ◌<◌}
use native.Mathlib.Omega.{arith}
use borrow.Author.Rules.{rules}
use lib.ListN.{length, set}
use Rattle.lists.proofs.Behind.{Wrote, field_wrote}
use Rattle.fields.specs.Decimal.{decimal}
use Rattle.strings.specs.Text.{string_line}
use Rattle.strings.proofs.LinesWritten.{line_long, line_wrote}
use Rattle.strings.proofs.lines.put_line.Goals as goal
use Rattle.strings.proofs.lines.put_line.Goals.{After-put_letters-end}

-- The line is written where LF is stored behind the letters.
line : (c : After-put_letters-end)
    → let args = c.args in
    Wrote args.at (string_line args.placed.now.modes args.placed.now.tree.now args.majorana) args.text.now
    (set c.put_letters-end.new.text c.put_letters-end.result 10) (c.put_letters-end.result + 1)
line c =
    let args = c.args in
    let field = c.put_field-letters in
    let letters = c.put_letters-end in
    line_wrote args.placed.now.modes args.placed.now.tree.now args.majorana c.requires.majorana_in_bounds (field_wrote (decimal args.majorana) 9 field.ensures.value field.ensures.out_after) letters.ensures.value letters.ensures.text_after

room : (c : After-put_letters-end) → c.put_letters-end.result < length c.put_letters-end.new.text
room c =
    let args = c.args in
    let field = c.put_field-letters in
    let letters = c.put_letters-end in
    omega (arith, c.requires.majorana_in_bounds, field.ensures.value, field.auto.out, letters.ensures.value, letters.auto.text, line_long args.placed.now.modes args.placed.now.tree.now args.majorana)

pub put_field-letters-requires : goal.put_field-letters-requires
put_field-letters-requires c =
    let args = c.args in
    omega (arith, c.requires.majorana_in_bounds, line_long args.placed.now.modes args.placed.now.tree.now args.majorana)

pub put_letters-end-requires : goal.put_letters-end-requires
put_letters-end-requires c =
    let args = c.args in
    let field = c.put_field-letters in
    (c.requires.majorana_bound, omega (arith, c.requires.majorana_in_bounds, field.ensures.value, field.auto.out, line_long args.placed.now.modes args.placed.now.tree.now args.majorana))

pub bounds-text-end : goal.bounds-text-end
bounds-text-end c = room (goal.at.bounds-text-end c).After-put_letters-end

pub overflow_add-result : goal.overflow_add-result
overflow_add-result c = let inside = room (goal.at.overflow_add-result c).After-put_letters-end in search rules

pub returns : goal.returns
returns c = record {
  value = (line (goal.at.returns c).After-put_letters-end).behind;
  text_after = (line (goal.at.returns c).After-put_letters-end).written;
}
