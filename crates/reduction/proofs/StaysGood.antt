-- Reduction to a parent below the bound leaves good terms good.
use mathlib.Core.Path.{◌≡◌}
use mathlib.Core.Bool.{Bool, true, false, cond, not}
use mathlib.Core.List.{List, [], map}
use Prim.Native.Nat.{ℕ, ◌<◌}
use borrow.Author.Tests.{lt-ltb}
use lib.Dec.{eqb, ltb}
use Rattle.lists.specs.Members.{every, alike, firsts}
use Rattle.lists.proofs.Every.{every_kept, every_first, every_mapped}
use Rattle.entities.specs.declared.Triple.{Triple}
use Rattle.terms.specs.declared.rules.Rule.{Rule}
use Rattle.terms.specs.Good.{good_term}
use Rattle.terms.proofs.GoodTerms.{good_term_says, good_term_from}
use Rattle.reduction.specs.Reduction.{replacement, rewriting, dropped, reduction, live, told_reduction}
use Rattle.reduction.proofs.SortedRight.{length_rewriting}
use Rattle.reduction.proofs.SortedRight.{ascends_sorted, every_sorted}
use Rattle.reduction.proofs.AsTold.{as_told}

-- Reduction: the length stays, the numbers are sorted, and each is one that was there or the parent.
module _ (rule : Rule) (bound : ℕ) (triple : Triple) (parent : ℕ) (below : parent < bound) where
  chosen_below : (b : Bool) (other : ℕ) → ltb other bound ≡ true → ltb (cond b parent other) bound ≡ true
  chosen_below true other e = lt-ltb parent bound below
  chosen_below false other e = e

  replacement_below : (number : ℕ) → ltb number bound ≡ true → ltb (replacement triple parent number) bound ≡ true
  unfolding replacement
  replacement_below number e =
      chosen_below (eqb number triple.x) _
      (chosen_below (eqb number triple.y) _ (chosen_below (eqb number triple.z) number e))

  rewriting_good : (term : List ℕ) → good_term bound term ≡ true → good_term bound (rewriting triple parent term) ≡ true
  unfolding rewriting
  rewriting_good term e =
      let g = good_term_says bound term e in
      let same = length_rewriting triple parent term in
      good_term_from bound (rewriting triple parent term)
      (record {
        some = rw same g.some;
        few = rw same g.few;
        ascending = ascends_sorted (map (replacement triple parent) term);
        below =
            every_sorted (λ index. ltb index bound) (map (replacement triple parent) term)
            (every_mapped (λ index. ltb index bound) (λ index. ltb index bound) (replacement triple parent) replacement_below term g.below);
      })

  pub reduction_good : (terms : List (List ℕ)) → every (good_term bound) (live terms) ≡ true
      → every (good_term bound) (live (reduction rule triple parent terms)) ≡ true
  unfolding told_reduction firsts
  reduction_good terms e =
      rw (as_told rule triple parent terms)
      (every_first (good_term bound) alike [] _
      (every_kept (good_term bound) (λ term. not (dropped rule parent term)) _
      (every_mapped (good_term bound) (good_term bound) (rewriting triple parent) rewriting_good (live terms) e)))
