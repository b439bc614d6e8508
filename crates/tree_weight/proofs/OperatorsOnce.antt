-- A reduction that keeps every row, to a number that stands in none, rewrites none: it only makes equal rows one.
use mathlib.Core.Path.{◌≡◌, refl, ◌∙◌, ap}
use mathlib.Core.Bool.{true, not}
use mathlib.Core.List.{List, [], ◌∷◌, map}
use Prim.Native.Nat.{ℕ, ◌≤◌}
use native.Mathlib.Omega.{arith}
use borrow.Author.Tests.{ltb-true}
use lib.Dec.{ltb}
use Rattle.lists.specs.Counting.{occurrences}
use Rattle.lists.specs.Members.{every, keep, alike, firsts}
use Rattle.lists.specs.Ranges.{ascends}
use Rattle.lists.proofs.Every.{every_uncons}
use Rattle.lists.proofs.Sums.{same_none}
use Rattle.entities.specs.Codes.{absent}
use Rattle.entities.specs.declared.Triple.{Triple}
use Rattle.terms.specs.declared.rules.Rule.TheVariants.{Keep}
use Rattle.terms.specs.Rows.{terms_of}
use Rattle.reduction.specs.Reduction.{rewriting, dropped, is_there, live, reduction, told_reduction}
use Rattle.reduction.specs.code.Promises.{Reduced}
use Rattle.reduction.proofs.AsTold.{as_told}
use Rattle.reduction.proofs.ReducedCounts.{reduced_terms}
use Rattle.reduction.proofs.Unchanged.{unchanged}
use Rattle.tree_weight.specs.Operators.{surviving}
use Rattle.tree_weight.specs.code.Promises.{SurvivingRows, OperatorRows}
use Rattle.tree_weight.proofs.Survivors.{surviving_below, surviving_ascends}

-- Three numbers that stand in no row.
abbrev pub nothing : Triple
nothing = record { x = absent; y = absent; z = absent }

module _ (bound : ℕ) (fits : bound ≤ absent) where
  never_absent : (l : List ℕ) → every (λ index. ltb index bound) l ≡ true → occurrences absent l ≡ 0
  unfolding occurrences
  never_absent [] below = refl
  never_absent (v ∷ l) below =
      let p = every_uncons (λ index. ltb index bound) v l below in
      let low = ltb-true v bound p.0 in
      omega (arith, same_none v absent (λ e. omega arith), never_absent l p.1)

  row_settled : (s : List ℕ) (rest : List (List ℕ)) → ascends s ≡ true → every (λ index. ltb index bound) s ≡ true
      → keep (λ term. not (dropped Keep absent term)) (map (rewriting nothing absent) (live rest)) ≡ live rest
      → keep (λ term. not (dropped Keep absent term)) (map (rewriting nothing absent) (live (s ∷ rest))) ≡ live (s ∷ rest)
  unfolding live is_there keep dropped
  row_settled [] rest up below on = on
  row_settled (v ∷ s) rest up below on =
      let none = never_absent (v ∷ s) below in
      rw (unchanged nothing absent (v ∷ s) up none none none) (ap (◌∷◌ (v ∷ s)) on)

  rows_settled : (terms : List (List ℕ))
      → keep (λ term. not (dropped Keep absent term)) (map (rewriting nothing absent) (live (map (surviving bound) terms))) ≡ live (map (surviving bound) terms)
  unfolding live keep
  rows_settled [] = refl
  rows_settled (term ∷ terms) =
      row_settled (surviving bound term) (map (surviving bound) terms) (surviving_ascends bound term) (surviving_below bound term) (rows_settled terms)

  once : (terms : List (List ℕ)) → live (reduction Keep nothing absent (map (surviving bound) terms)) ≡ firsts alike (live (map (surviving bound) terms))
  unfolding told_reduction
  once terms = as_told Keep nothing absent (map (surviving bound) terms) ∙ ap (firsts alike) (rows_settled terms)

pub operator_rows : (count : ℕ) (rows own after : List ℕ) (drops : ℕ) → SurvivingRows count rows own
    → Reduced Keep nothing absent count own after drops → OperatorRows count rows after
operator_rows count rows own after drops survive reduced = record {
  held = reduced.held;
  terms = λ bound fits below.
      ap live (reduced_terms Keep nothing absent count own after drops reduced ∙ ap (reduction Keep nothing absent) (survive.terms bound below)) ∙ once bound fits (terms_of 8 count rows);
}
