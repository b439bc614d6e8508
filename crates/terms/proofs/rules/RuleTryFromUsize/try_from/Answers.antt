-- The two numbers have their rules, and any other is above 1.
use Rattle.std.proofs.Common.{refl}
use native.Mathlib.Omega.{arith}
use borrow.Author.Tests.{lt-leb}
use Rattle.terms.specs.Rules.{rule_good, rule_of}
use Rattle.terms.proofs.rules.RuleTryFromUsize.try_from.Goals as goal

pub returns-in-0 : goal.returns-in-0
unfolding rule_good rule_of
returns-in-0 c = rw c.in-0.is (refl, refl)

pub returns-in-1 : goal.returns-in-1
unfolding rule_good rule_of
returns-in-1 c = rw c.in-1.is (refl, refl)

pub returns-in_default : goal.returns-in_default
unfolding rule_good
returns-in_default c = (lt-leb c.args.number 1 (omega arith), refl)
