-- Below 1 or above the most there is, one of the two tests fails.
use Rattle.std.proofs.Common.{refl}
use borrow.Author.Tests.{le-leb, lt-leb}
use Rattle.terms.specs.Good.{modes_good}
use Rattle.terms.proofs.checking.check_modes.Goals as goal
use Rattle.terms.proofs.checking.check_modes.Goals.{then-modes-lt1-via-then-modes-lt1, then-modes-lt1-via-else-modes-lt1+then-modes-gt256}

pub returns-then-modes-lt1-clause-said : goal.returns-then-modes-lt1-clause-said
unfolding modes_good
returns-then-modes-lt1-clause-said c =
    elim c.then-modes-lt1.branch [
      | then-modes-lt1-via-then-modes-lt1 w ↦ (rw (lt-leb _ _ w.if-modes-lt1.true), refl)
      | then-modes-lt1-via-else-modes-lt1+then-modes-gt256 w ↦
          (rw (le-leb _ _ w.if-modes-lt1.false, lt-leb _ _ w.if-modes-gt256.true), refl)
    ]

pub returns-clause-said : goal.returns-clause-said
unfolding modes_good
returns-clause-said c = rw (le-leb _ _ c.if-modes-lt1.false, le-leb _ _ c.if-modes-gt256.false)
