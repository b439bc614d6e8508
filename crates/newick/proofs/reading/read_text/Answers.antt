-- Behind the node stands `;`, and behind that the text ends or what is read is stuck.
use mathlib.Core.Path.{sym, ◌∙◌}
use native.Mathlib.Omega.{arith}
use borrow.Author.Tests.{eq-eqb, ne_eqb}
use lib.ListN.{length}
use Rattle.refusal.proofs.Told.{handed_on}
use Rattle.newick.specs.Reading.{text_read}
use Rattle.newick.specs.code.Promises.{meant, stopped, end_of, place_of, closed_of}
use Rattle.newick.proofs.PartsRead.{Onward, onward, part_child, stops_before, stops_there, goes_behind}
use Rattle.newick.proofs.WholeText.{ends, text_by_root}
use Rattle.newick.proofs.reading.read_text.Goals as goal
use Rattle.newick.proofs.reading.read_text.Goals.{After-marked}

-- Behind the `;`, what is to follow comes to the whole.
behind : (c : After-marked)
    → Onward (text_read 256 c.args.text.now) c.args.text.now c.read_node.new.rows 256 c.marked.result (ends c.args.text.now)
behind c =
    onward 59 _ (text_by_root 256 c.args.text.now) c.read_node.ensures c.in_ok-read_node.was (c.marked.ensures.by_index, c.marked.ensures.result_in_bounds)

pub returns-in_err-read_node : goal.returns-in_err-read_node
returns-in_err-read_node c =
    rw (handed_on c.from_residual.ensures) (stops_before 59 _ (text_by_root 256 c.args.text.now) c.read_node.ensures c.in_err-read_node.was)

pub marked-requires-clause-child_in_bounds : goal.marked-requires-clause-child_in_bounds
marked-requires-clause-child_in_bounds c = (part_child c.read_node.ensures c.in_ok-read_node.was).1.0

pub returns-in_err-root : goal.returns-in_err-root
returns-in_err-root c =
    rw (handed_on c.from_residual-in_err-root.ensures) (stops_there (behind (goal.at.returns-in_err-root c).After-marked) c.in_err-root.was)

pub returns-then-root-text : goal.returns-then-root-text
unfolding meant stopped end_of place_of closed_of
returns-then-root-text c =
    let text = c.args.text.now in
    let on = goes_behind (behind (goal.at.returns-then-root-text c).After-marked) c.in_ok-root.was in
    record { says = sym (on.0 ∙ rw (ne_eqb c.in_ok-root.root.end (length text) c.if-root-text.true)); within = on.1.0; few = omega arith }

pub returns : goal.returns
unfolding meant end_of closed_of
returns c =
    let text = c.args.text.now in
    let on = goes_behind (behind (goal.at.returns c).After-marked) c.in_ok-root.was in
    record { says = sym (on.0 ∙ rw (eq-eqb c.in_ok-root.root.end (length text) c.if-root-text.false)); within = on.1.0; few = on.1.1 }
