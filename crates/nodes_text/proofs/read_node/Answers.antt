-- A line that opens otherwise is no node; behind the opening, without the last byte, the codes tell the answer, and the label last.
use mathlib.Core.Path.{◌≡◌, sym, ◌∙◌}
use mathlib.Core.Bool.{true}
use native.Mathlib.Omega.{arith}
use Rattle.fields.specs.code.Reading.{opens, fields_behind}
use Rattle.fields.proofs.Openings.{opens_long}
use Rattle.nodes_text.proofs.NodeLines.{node_opening, node_closed, node_unread, node_told}
use Rattle.nodes_text.proofs.read_node.Goals as goal
use Rattle.nodes_text.proofs.read_node.Goals.{Else-not-opens}

-- Where the line opens so.
opened : (c : Else-not-opens) → opens node_opening c.args.line.now ≡ true
opened c = sym c.opens.ensures ∙ c.if-not-opens.false

pub returns-then-not-opens : goal.returns-then-not-opens
returns-then-not-opens c =
    let args = c.args in
    node_closed args.line.now _ (sym c.opens.ensures ∙ c.if-not-opens.true)

pub overflow_sub-end : goal.overflow_sub-end
overflow_sub-end c = omega (arith, opens_long _ _ (opened (goal.at.overflow_sub-end c).Else-not-opens))

pub slice_bounds-read_codes-count : goal.slice_bounds-read_codes-count
slice_bounds-read_codes-count c = omega (arith, opens_long _ _ (opened (goal.at.slice_bounds-read_codes-count c).Else-not-opens))

pub slice_bounds-read_codes-start : goal.slice_bounds-read_codes-start
slice_bounds-read_codes-start c = omega (arith, opens_long _ _ (opened (goal.at.slice_bounds-read_codes-start c).Else-not-opens))

pub returns-then-not-read_codes : goal.returns-then-not-read_codes
unfolding fields_behind
returns-then-not-read_codes c =
    node_unread c.args.line.now _ (opened (goal.at.returns-then-not-read_codes c).Else-not-opens) _ c.requires _ c.read_codes.ensures c.if-not-read_codes.true

pub returns : goal.returns
unfolding fields_behind
returns c =
    node_told c.args.line.now _ (opened (goal.at.returns c).Else-not-opens) _ c.requires _ c.read_codes.ensures c.if-not-read_codes.false
