-- The terms passed and the lines ahead give the answer: each way out of a turn is one law.
use Rattle.std.proofs.Common.{◌∙◌, ap, sym, arith}
use Rattle.fields.specs.Lines.{lines}
use Rattle.fields.specs.code.LinesLeft.{lines_left}
use Rattle.terms_text.proofs.TermsAhead.{passing_starts, passing_cut, passing_ends, passing_stops, too_many, no_term, passing_goes}
use Rattle.terms_text.proofs.read_terms.Goals as goal

pub loop-line-init : goal.loop-line-init
loop-line-init c =
    let text = c.args.text.now in
    let all = ap lines_left c.into_iter-line-iterator.ensures.into_iter_gives ∙ c.lines_of-line-items.ensures in
    rw all (passing_starts 2048 (lines text) c.args.numbers.now (omega arith))

pub returns-then-count-eq2048 : goal.returns-then-count-eq2048
returns-then-count-eq2048 c =
    let p = rw c.in-Some.ensures.steps at c.loop-line.invariant in
    passing_stops 2048 c.args.text.now _ _ _ _ p c.loop-line.numbers (too_many 2048 c.args.text.now _ _ _ _ p (omega arith))

pub returns-then-not-put_term : goal.returns-then-not-put_term
returns-then-not-put_term c =
    let p = rw c.in-Some.ensures.steps at c.loop-line.invariant in
    passing_stops 2048 c.args.text.now _ _ _ _ p c.put_term.new.numbers
    (no_term 2048 c.args.text.now _ _ _ _ p (sym c.put_term.ensures.good ∙ c.if-not-put_term.true))

pub loop-line-preserved : goal.loop-line-preserved
loop-line-preserved c =
    let p = rw c.in-Some.ensures.steps at c.loop-line.invariant in
    passing_goes 2048 c.args.text.now _ _ _ _ p _ (omega (arith, p.few, c.if-count-eq2048.false)) _ c.if-not-put_term.false c.put_term.ensures

pub returns-then-kept_bytes-text : goal.returns-then-kept_bytes-text
returns-then-kept_bytes-text c =
    let p = rw c.in-None.ensures.steps.0 at c.loop-line.invariant in
    passing_cut 2048 c.args.text.now _ _ p (omega (arith, c.kept_bytes.ensures.0))

pub returns : goal.returns
returns c =
    let p = rw c.in-None.ensures.steps.0 at c.loop-line.invariant in
    passing_ends 2048 c.args.text.now _ _ p (omega (arith, c.kept_bytes.ensures.0, c.kept_bytes.ensures.1))
