-- Each return is one arm of the definition.
use borrow.Author.Tests.{le-leb, lt-leb, lt-ltb, le-ltb}
use Rattle.fields.specs.code.Reading.{goes_on}
use Rattle.fields.proofs.decimal.goes_on.Goals as goal

pub returns-then-value-gt6553 : goal.returns-then-value-gt6553
unfolding goes_on
returns-then-value-gt6553 c = rw (lt-leb _ _ c.if-value-gt6553.true)

pub returns-then-value-gt0 : goal.returns-then-value-gt0
unfolding goes_on
returns-then-value-gt0 c = rw (le-leb _ _ c.if-value-gt6553.false, lt-ltb _ _ c.if-value-gt0.true)

pub returns : goal.returns
unfolding goes_on
returns c = rw (le-leb _ _ c.if-value-gt6553.false, le-ltb _ _ c.if-value-gt0.false)
