-- A refusal's number is 1 to 19, so that with a place below 65536 one number says both; terms are refused at such a place.
use Rattle.std.specs.Prelude.{Err, Ok, Result}
use mathlib.Core.Path.{◌≡◌, refl}
use mathlib.Core.Bool.{Bool, true, false, cond, not}
use mathlib.Core.List.{List}
use Prim.Native.Nat.{ℕ, ◌+◌, ◌*◌, ◌/◌, ◌%◌, ◌≤◌}
use native.Mathlib.Omega.{arith}
use borrow.Author.Tests.{ltb-true, leb-true}
use lib.Dec.{eqb, ltb, leb}
use lib.ListN.{length}
use Rattle.lists.proofs.Tests.{whichever}
use Rattle.refusal.specs.declared.Refusal.{Refusal}
use Rattle.refusal.specs.declared.Refusal.TheVariants.{
  Modes,
  TermNumbers,
  TooManyTerms,
  BadRow,
  Room,
  LineForm,
  Header,
  StepNotNext,
  ChildNotOpen,
  NotLawful,
  WeightUntrue,
  LineAfterLast,
  TreeLength,
  ChildCode,
  NotOneTree,
  WrongPair,
  Heuristic,
  Malformed,
  NewickForm,
  Rule,
  TooManyToTry,
  TooManyNodes,
}
use Rattle.refusal.specs.Numbers.{number_of, place_of}
use Rattle.terms.specs.Good.{good_rows, checked}

pub number_small : (refusal : Refusal) → (1 ≤ number_of refusal) × (number_of refusal ≤ 22)
number_small Modes = omega arith
number_small TermNumbers = omega arith
number_small TooManyTerms = omega arith
number_small (BadRow row) = omega arith
number_small Room = omega arith
number_small (LineForm line) = omega arith
number_small Header = omega arith
number_small (StepNotNext line) = omega arith
number_small (ChildNotOpen line) = omega arith
number_small (NotLawful line) = omega arith
number_small (WeightUntrue line) = omega arith
number_small (LineAfterLast line) = omega arith
number_small TreeLength = omega arith
number_small (ChildCode index) = omega arith
number_small NotOneTree = omega arith
number_small (WrongPair pair) = omega arith
number_small Heuristic = omega arith
number_small (Malformed line) = omega arith
number_small (NewickForm byte) = omega arith
number_small Rule = omega arith
number_small TooManyToTry = omega arith
number_small (TooManyNodes byte) = omega arith

-- The one number that a refused call returns, taken apart.
pub result_says : (refusal : Refusal) (result : ℕ) → place_of refusal ≤ 65535 → result ≡ number_of refusal * 65536 + place_of refusal
    → (1 ≤ result) × (result / 65536 ≡ number_of refusal) × (result % 65536 ≡ place_of refusal)
result_says refusal result place e =
    let number = number_small refusal in
    rw e (omega (arith, place, number.0), omega (arith, place), omega (arith, place))

-- A refusal where a test fails, and else what follows.
pub unless : {A : Type 0} (measure : A → ℕ) (most : ℕ) (test : Bool) (off on : A) → measure off ≤ most → (test ≡ true → measure on ≤ most)
    → measure (cond (not test) off on) ≤ most
unless measure most true off on k h = h refl
unless measure most false off on k h = k

-- The first bad row, 0 where there is none.
unfoldable pub bad_place : Result ℕ Refusal → ℕ
bad_place (Ok count) = 0
bad_place (Err refusal) = place_of refusal

pub bad_row_place : (modes : ℕ) (numbers : List ℕ) → bad_place (checked modes numbers) ≤ 2048
unfolding checked bad_place
bad_row_place modes numbers =
    let count = length numbers / 8 in
    let good = good_rows (2 * modes) count numbers in
    unless bad_place 2048 (eqb (length numbers % 8) 0) (Err TermNumbers) _ (omega arith)
    (λ f. unless bad_place 2048 (leb count 2048) (Err TooManyTerms) _ (omega arith)
    (λ few. whichever bad_place 2048 (ltb good count) (Err (BadRow good)) (Ok count)
    (λ less. omega (arith, ltb-true good count less, leb-true count 2048 few))
    (omega arith)))
