-- What a call is asked for: "Modes n", "Terms T" and the rule that it names, whatever it is lent to work in.
use Rattle.std.specs.Prelude.{List, ℕ}
use Rattle.entities.specs.Limits.{row_width}
use Rattle.terms.specs.declared.rules.Rule.{Rule}
use Rattle.terms.specs.Rows.{terms_of}

-- A job: its modes, its rule of reduction and its terms.
pub record Job : Type 0 where
  pub modes : ℕ
  pub rule : Rule
  pub terms : List (List ℕ)

-- The job of the first rows of the numbers.
abbrev pub job_of : ℕ → Rule → ℕ → List ℕ → Job
job_of modes rule count numbers = record { modes = modes; rule = rule; terms = terms_of row_width count numbers }
