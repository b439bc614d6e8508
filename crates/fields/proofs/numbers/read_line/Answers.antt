-- A line that opens otherwise says nothing; behind the opening, without the last byte, the numbers tell the answer.
use mathlib.Core.Path.{◌≡◌, sym, ◌∙◌}
use mathlib.Core.Bool.{true}
use native.Mathlib.Omega.{arith}
use Rattle.fields.specs.code.Reading.{opens, fields_behind}
use Rattle.fields.proofs.Openings.{opens_long, read_closed, read_behind}
use Rattle.fields.proofs.numbers.read_line.Goals as goal
use Rattle.fields.proofs.numbers.read_line.Goals.{Else-not-opens}

-- Where the line opens so.
opened : (c : Else-not-opens) → opens c.args.opening.now c.args.line.now ≡ true
opened c = sym c.opens.ensures ∙ c.if-not-opens.false

pub returns-then-not-opens : goal.returns-then-not-opens
returns-then-not-opens c =
    let args = c.args in
    read_closed args.opening.now args.line.now _ _ (sym c.opens.ensures ∙ c.if-not-opens.true)

pub overflow_sub-end : goal.overflow_sub-end
overflow_sub-end c = omega (arith, opens_long _ _ (opened (goal.at.overflow_sub-end c).Else-not-opens))

pub slice_bounds-read_numbers-count : goal.slice_bounds-read_numbers-count
slice_bounds-read_numbers-count c = omega (arith, opens_long _ _ (opened (goal.at.slice_bounds-read_numbers-count c).Else-not-opens))

pub slice_bounds-read_numbers-start : goal.slice_bounds-read_numbers-start
slice_bounds-read_numbers-start c = omega (arith, opens_long _ _ (opened (goal.at.slice_bounds-read_numbers-start c).Else-not-opens))

pub returns : goal.returns
unfolding fields_behind
returns c =
    let args = c.args in
    read_behind args.opening.now args.line.now _ _ _ (opened (goal.at.returns c).Else-not-opens) c.read_numbers.ensures
