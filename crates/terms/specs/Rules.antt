-- "Both stay, and the caller of HATT, resume or assign names one": the rules of reduction and their numbers.
use Rattle.std.specs.Prelude.{◌≡◌, Bool, true, false, cond, ℕ, eqb, leb, Result, MatchResult}
use Rattle.refusal.specs.declared.Refusal.{Refusal}
use Rattle.refusal.specs.declared.Refusal.TheVariants.{Rule as NoRule}
use Rattle.terms.specs.declared.rules.Rule.{Rule}
use Rattle.terms.specs.declared.rules.Rule.TheVariants.{Published, Keep}

-- "0 (published) or 1 (keep)".
abbrev pub rule_number : Rule → ℕ
rule_number Published = 0
rule_number Keep = 1

-- 20 "where the rule isn't 0 (published) or 1 (keep)".
unfoldable pub rule_good : ℕ → Bool
rule_good number = leb number 1

-- The rule of a number that has one.
unfoldable pub rule_of : ℕ → Rule
rule_of number = cond (eqb number 0) Published Keep

-- What is said of a number: its rule, or that it has none.
abbrev pub RuleSaid : ℕ → Result Rule Refusal → Type 0
RuleSaid number r = MatchResult r (λ rule. (rule_good number ≡ true) × (rule ≡ rule_of number)) (λ why. (rule_good number ≡ false) × (why ≡ NoRule))
