-- How long the written lines are: each number has few digits, and a byte behind it.
use Prim.Native.Nat.{ℕ, ◌<◌, ◌≤◌}
use native.Mathlib.Omega.{arith}
use lib.ListN.{length}
use Rattle.entities.specs.declared.Triple.{Triple}
use Rattle.fields.proofs.Digits.{few_digits}
use Rattle.terms.specs.declared.rules.Rule.{Rule}
use Rattle.obeying.specs.LineForms.{header_text, merge_text}
use Rattle.journal.proofs.Texts.{length_header, length_merge}

-- The lines of a run: "journal bytes 16 + 21n".
pub header_short : (rule : Rule) (modes terms : ℕ) → modes < 1000 → terms < 10000 → length (header_text rule modes terms) ≤ 16
header_short rule modes terms m t = omega (arith, length_header rule modes terms, few_digits 2 modes m, few_digits 3 terms t)

pub merge_short : (step : ℕ) (triple : Triple) (weight : ℕ)
    → step < 1000 → triple.x < 1000 → triple.y < 1000 → triple.z < 1000 → weight < 10000
    → length (merge_text step triple weight) ≤ 21
merge_short step triple weight s x y z w =
    omega (
      arith,
      length_merge step triple weight,
      few_digits 2 step s,
      few_digits 2 triple.x x,
      few_digits 2 triple.y y,
      few_digits 2 triple.z z,
      few_digits 3 weight w,
    )
