-- Terms are refused by 2, 3 or 4 and nothing else.
use Rattle.std.specs.Prelude.{Err, Ok, Result}
use mathlib.Core.Path.{◌≡◌}
use mathlib.Core.Bool.{Bool, true, false, cond, not}
use mathlib.Core.List.{List}
use Prim.Native.Nat.{ℕ, ◌*◌, ◌/◌, ◌%◌, ◌≤◌}
use native.Mathlib.Omega.{arith}
use lib.Dec.{eqb, leb, ltb}
use lib.ListN.{length}
use Rattle.refusal.specs.declared.Refusal.{Refusal}
use Rattle.refusal.specs.declared.Refusal.TheVariants.{TermNumbers, TooManyTerms, BadRow}
use Rattle.refusal.specs.Numbers.{number_of}
use Rattle.entities.specs.Limits.{most_terms, row_width}
use Rattle.terms.specs.Good.{good_rows, checked}

module _ (modes : ℕ) (numbers : List ℕ) where
  abbrev count : ℕ
  count = length numbers / row_width

  pub terms_refusal : (why : Refusal) → checked modes numbers ≡ Err why → number_of why ≤ 4
  unfolding checked
  terms_refusal why = go (eqb (length numbers % row_width) 0) (leb count most_terms) (ltb (good_rows (2 * modes) count numbers) count)
    where
      by : (refusal : Refusal) → number_of refusal ≤ 4 → ◌≡◌ {A = Result ℕ Refusal} (Err refusal) (Err why) → number_of why ≤ 4
      by refusal few e = let same : refusal ≡ why = cc in rw (← same) few

      go : (a b c : Bool)
          → cond (not a) (Err TermNumbers)
          (cond (not b) (Err TooManyTerms) (cond c (Err (BadRow (good_rows (2 * modes) count numbers))) (Ok count)))
          ≡ Err why
          → number_of why ≤ 4
      go false b c e = by TermNumbers (omega arith) e
      go true false c e = by TooManyTerms (omega arith) e
      go true true true e = by (BadRow (good_rows (2 * modes) count numbers)) (omega arith) e
      go true true false e = let z : ◌≡◌ {A = ℕ} 0 1 = cc in absurd (omega arith)
