-- What a line, or a text, says as so many numbers.
use Rattle.std.proofs.Common.{◌≡◌, sym, refl, Bool, true, false, cond, List, [], ℕ, map, Option, Some, None}
use Rattle.std.proofs.lemmas.Option.{same_Some}
use native.Mathlib.Omega.{arith}
use mathlib.Core.Bool.{true≢false}
use Rattle.fields.specs.Decimal.{value}
use Rattle.fields.specs.Fields.{fields}
use Rattle.fields.proofs.Openings.{plain_read}
use Rattle.fields.specs.code.Reading.{numbers_good, fields_behind, says_numbers, numbers_said, line_said}

-- Where the test holds there is the value, and else none.
tested : (test : Bool) (numbers : List ℕ) {found : List ℕ} → cond {A = Option (List ℕ)} test (Some numbers) None ≡ Some found → (test ≡ true) × (found ≡ numbers)
tested true numbers e = (refl, sym (same_Some _ _ e))
tested false numbers e = grind arith

untested : (test : Bool) (numbers : List ℕ) → cond {A = Option (List ℕ)} test (Some numbers) None ≡ None → test ≡ false
untested true numbers e = grind arith
untested false numbers e = refl

module _ (count : ℕ) (parts : List (List ℕ)) where
  pub numbers_there : {found : List ℕ} → numbers_said count parts ≡ Some found → (numbers_good count parts ≡ true) × (found ≡ map value parts)
  unfolding numbers_said
  numbers_there e = tested (numbers_good count parts) (map value parts) e

  pub no_numbers : numbers_said count parts ≡ None → numbers_good count parts ≡ false
  unfolding numbers_said
  no_numbers e = untested (numbers_good count parts) (map value parts) e

module _ (count : ℕ) (opening line : List ℕ) where
  pub line_there : {found : List ℕ} → line_said count opening line ≡ Some found
      → (says_numbers opening count line ≡ true) × (found ≡ map value (fields_behind opening line))
  unfolding line_said
  line_there e = tested (says_numbers opening count line) (map value (fields_behind opening line)) e

  pub no_line : line_said count opening line ≡ None → says_numbers opening count line ≡ false
  unfolding line_said
  no_line e = untested (says_numbers opening count line) (map value (fields_behind opening line)) e

-- The same of a line with nothing before its numbers.
module _ (count : ℕ) (line : List ℕ) where
  pub plain_there : {found : List ℕ} → line_said count [] line ≡ Some found
      → (numbers_good count (fields line) ≡ true) × (found ≡ map value (fields line))
  plain_there {found} e =
      let said = line_there count [] line e in
      let read = plain_read line count found true (record { good = sym said.0; values = λ h. said.1 }) in
      (sym read.good, read.values refl)

  pub no_plain : line_said count [] line ≡ None → numbers_good count (fields line) ≡ false
  no_plain e =
      let read = plain_read line count [] false (record { good = sym (no_line count [] line e); values = λ h. absurd (true≢false (sym h)) }) in
      sym read.good
