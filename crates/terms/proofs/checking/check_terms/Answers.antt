-- Each return is one arm of the check's definition: the tests on the way decide its three conditions.
use borrow.Author.Tests.{eq-eqb, ne_eqb, lt-leb, le-leb, lt-ltb, le-ltb}
use Rattle.refusal.proofs.Told.{tells}
use Rattle.terms.specs.Good.{checked}
use Rattle.terms.proofs.checking.check_terms.Goals as goal

pub returns-then-terms-ne0 : goal.returns-then-terms-ne0
unfolding checked
returns-then-terms-ne0 c = tells (rw (ne_eqb _ _ c.if-terms-ne0.true))

pub returns-then-count-gt2048 : goal.returns-then-count-gt2048
unfolding checked
returns-then-count-gt2048 c = tells (rw (eq-eqb _ _ c.if-terms-ne0.false, lt-leb _ _ c.if-count-gt2048.true))

pub returns-then-good-count : goal.returns-then-good-count
unfolding checked
returns-then-good-count c =
    tells (rw (eq-eqb _ _ c.if-terms-ne0.false, le-leb _ _ c.if-count-gt2048.false, ← c.good_rows-good.ensures, lt-ltb _ _ c.if-good-count.true))

pub returns : goal.returns
unfolding checked
returns c =
    tells (rw (eq-eqb _ _ c.if-terms-ne0.false, le-leb _ _ c.if-count-gt2048.false, ← c.good_rows-good.ensures, le-ltb _ _ c.if-good-count.false))
