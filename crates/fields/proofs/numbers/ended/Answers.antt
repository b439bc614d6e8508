-- Each return is one arm of the definition.
use native.Mathlib.Omega.{arith}
use borrow.Author.Tests.{le-leb, lt-leb}
use Rattle.fields.specs.code.Reading.{ended_at}
use Rattle.fields.proofs.numbers.ended.Goals as goal

pub returns-then-count-eq0 : goal.returns-then-count-eq0
unfolding ended_at
returns-then-count-eq0 c = rw (lt-leb 1 c.args.count (omega arith))

pub returns-then-value-gt65535 : goal.returns-then-value-gt65535
unfolding ended_at
returns-then-value-gt65535 c =
    let args = c.args in
    rw (le-leb 1 args.count (omega arith), lt-leb args.value 65535 (omega arith))

pub returns : goal.returns
unfolding ended_at
returns c =
    let args = c.args in
    rw (le-leb 1 args.count (omega arith), le-leb args.value 65535 (omega arith))
