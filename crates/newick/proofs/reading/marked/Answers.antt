-- Each arm is one law of a child with a byte behind it.
use mathlib.Core.Path.{sym, ◌∙◌}
use Rattle.newick.proofs.PartsRead.{marked_missing, marked_there}
use Rattle.newick.proofs.reading.marked.Goals as goal

pub returns-then-not-stands : goal.returns-then-not-stands
returns-then-not-stands c =
    let says =
    marked_missing c.args.text.now c.args.byte c.args.child c.requires.child_in_bounds (sym c.stands.ensures.value ∙ c.if-not-stands.true) in
    record { by_index = says.0; result_in_bounds = says.1 }

pub returns : goal.returns
returns c =
    let there = c.if-not-stands.false in
    let says =
    marked_there c.args.text.now c.args.byte c.args.child (sym c.stands.ensures.value ∙ there) (c.stands.ensures.at_in_bounds there) in
    record { by_index = says.0; result_in_bounds = says.1 }
