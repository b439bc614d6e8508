-- The nodes passed and the lines ahead give the answer: each way out of a turn is one law.
use Rattle.std.proofs.Common.{◌∙◌, ap, refl, sym, arith}
use Rattle.fields.specs.Lines.{lines}
use Rattle.fields.specs.code.LinesLeft.{lines_left}
use Rattle.nodes_text.proofs.NodesAhead.{passing_starts, passing_cut, passing_none, passing_all, too_many, no_node, passing_goes}
use Rattle.nodes_text.proofs.read_nodes.Goals as goal

pub loop-line-init : goal.loop-line-init
loop-line-init c =
    let text = c.args.text.now in
    let all = ap lines_left c.into_iter-line-iterator.ensures.into_iter_gives ∙ c.lines_of-line-items.ensures in
    rw all (passing_starts 256 (lines text) c.args.rows.now (omega arith))

pub returns-then-count-eq256 : goal.returns-then-count-eq256
returns-then-count-eq256 c =
    (refl, too_many 256 c.args.text.now _ _ _ _ (rw c.in-Some.ensures.steps at c.loop-line.invariant) (omega arith))

pub returns-then-not-put_row : goal.returns-then-not-put_row
returns-then-not-put_row c = (
  refl,
  no_node 256 c.args.text.now _ _ _ _ (rw c.in-Some.ensures.steps at c.loop-line.invariant)
      (sym c.put_row.ensures.good ∙ c.if-not-put_row.true),
)

pub loop-line-preserved : goal.loop-line-preserved
loop-line-preserved c =
    let p = rw c.in-Some.ensures.steps at c.loop-line.invariant in
    passing_goes 256 c.args.text.now _ _ _ _ p _ (omega (arith, p.few, c.if-count-eq256.false)) _ c.if-not-put_row.false c.put_row.ensures

pub returns-then-kept_bytes-text : goal.returns-then-kept_bytes-text
returns-then-kept_bytes-text c =
    (refl, passing_cut 256 c.args.text.now _ _ (rw c.in-None.ensures.steps.0 at c.loop-line.invariant) (omega arith))

pub returns-then-count-eq0 : goal.returns-then-count-eq0
returns-then-count-eq0 c =
    (refl, passing_none 256 c.args.text.now _ _ (rw c.in-None.ensures.steps.0 at c.loop-line.invariant) c.if-count-eq0.true)

pub returns : goal.returns
returns c =
    passing_all 256 c.args.text.now _ _ (rw c.in-None.ensures.steps.0 at c.loop-line.invariant) (omega arith) c.if-count-eq0.false
