-- Two rules of one number are one rule; a rule's number has a rule, and it is that rule.
use mathlib.Core.Path.{◌≡◌, refl}
use mathlib.Core.Bool.{true}
use Prim.Native.Nat.{ℕ, zero, suc}
use native.Mathlib.Omega.{arith}
use borrow.Author.Tests.{leb-true}
use Rattle.terms.specs.declared.rules.Rule.{Rule}
use Rattle.terms.specs.declared.rules.Rule.TheVariants.{Published, Keep}
use Rattle.terms.specs.Rules.{rule_number, rule_good, rule_of}

pub same_rule : (rule other : Rule) → rule_number rule ≡ rule_number other → rule ≡ other
same_rule Published Published e = refl
same_rule Published Keep e = absurd (omega arith)
same_rule Keep Published e = absurd (omega arith)
same_rule Keep Keep e = refl

pub number_good : (rule : Rule) → rule_good (rule_number rule) ≡ true
unfolding rule_good
number_good Published = refl
number_good Keep = refl

pub number_of_rule : (number : ℕ) → rule_good number ≡ true → rule_number (rule_of number) ≡ number
unfolding rule_good rule_of
number_of_rule zero e = refl
number_of_rule (suc zero) e = refl
number_of_rule (suc (suc number)) e = absurd (omega (arith, leb-true (suc (suc number)) 1 e))

pub rule_of_number : (rule : Rule) → rule_of (rule_number rule) ≡ rule
unfolding rule_of
rule_of_number Published = refl
rule_of_number Keep = refl
