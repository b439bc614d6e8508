-- What reading the terms of a call promises: the numbers read stand for the terms'.
use Rattle.std.specs.Prelude.{◌≡◌, List, ℕ, ◌≤◌, length, take, Err}
use Rattle.refusal.specs.declared.Refusal.{Refusal}
use Rattle.terms.specs.Good.{checked}
use Rattle.call_bytes.specs.code.Handing.{term_numbers}

-- Numbers that stand for terms: they are the terms', or the check refuses both alike, whatever the modes.
pub data StandFor (numbers terms : List ℕ) : Type 0 where
  same : numbers ≡ terms → StandFor numbers terms
  both_refused : (refusal : Refusal) → ((modes : ℕ) → checked modes numbers ≡ Err refusal) → ((modes : ℕ) → checked modes terms ≡ Err refusal)
      → StandFor numbers terms

-- So many numbers were read, and they stand for the terms.
pub record TermsRead (bytes numbers : List ℕ) (count : ℕ) : Type 0 where
  pub fits : count ≤ length numbers
  pub stands : StandFor (take count numbers) (term_numbers bytes)
