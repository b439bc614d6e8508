-- The rows of the operators weigh what the operators weigh: the empty one, which has no row, weighs nothing.
use mathlib.Core.Path.{◌≡◌, refl, ◌∙◌, sym, ap}
use mathlib.Core.Bool.{Bool, true}
use mathlib.Core.List.Memᴰ
use mathlib.Core.List.{List, [], ◌∷◌, map, Memᴰ}
use mathlib.Core.Logic.{⊎_elim}
use Prim.Native.Nat.{ℕ, ◌*◌, ◌≤◌}
use native.Mathlib.Omega.{arith}
use lib.Dec.{ltb}
use Rattle.lists.specs.Members.{every, keep, alike, firsts}
use Rattle.lists.specs.Ranges.{ascends}
use Rattle.lists.proofs.Alike.{alike_self, alike_same}
use Rattle.lists.proofs.Every.{every_cons, every_uncons, every_also, every_kept, every_first}
use Rattle.lists.proofs.FirstsWeighed.{firsts_weigh, firsts_weightless}
use Rattle.lists.proofs.Membership.{kept, of_kept}
use Rattle.lists.proofs.Sums.{sum_of}
use Rattle.terms.specs.Good.{good_term}
use Rattle.terms.specs.Rows.{terms_of}
use Rattle.terms.proofs.GoodTerms.{good_term_says}
use Rattle.reduction.proofs.AsTold.{live_weighs}
use Rattle.reduction.specs.Reduction.{is_there, live}
use Rattle.tree_weight.specs.Operators.{surviving, operators}
use Rattle.tree_weight.specs.Weight.{row_weight, listed_weight, tree_weight}
use Rattle.tree_weight.specs.code.Promises.{GoodRows, AscendingRows, OperatorRows, RowsBelow}
use Rattle.tree_weight.proofs.Survivors.{surviving_below}
use Rattle.tree_weight.proofs.SurvivingWeigh.{empty_weighs}

module _ (weight : List ℕ → ℕ) (none : weight [] ≡ 0) where
  -- The empty row and those that are there have every row among them.
  there_or_empty : (term : List ℕ) (terms : List (List ℕ)) → Memᴰ term terms → Memᴰ term ([] ∷ live terms)
  unfolding live is_there keep
  there_or_empty [] terms m = Memᴰ.head refl
  there_or_empty (index ∷ term) terms m = Memᴰ.tail (kept is_there terms refl m)

  firsts_live : (terms : List (List ℕ)) → sum_of weight (firsts alike (live terms)) ≡ sum_of weight (firsts alike terms)
  unfolding live
  firsts_live terms =
      sym (firsts_weightless alike alike_self alike_same weight [] none (live terms))
      ∙ firsts_weigh alike alike_self alike_same weight ([] ∷ live terms) ([] ∷ terms)
      (λ a m. ⊎_elim Memᴰ.head (λ later. Memᴰ.tail (of_kept is_there terms later).0) (Memᴰ.cases_cons m))
      (λ a m. ⊎_elim Memᴰ.head (λ later. there_or_empty a terms later) (Memᴰ.cases_cons m))
      ∙ firsts_weightless alike alike_self alike_same weight [] none terms

-- What every row that is there passes, every row does that the empty one passes too.
live_all : (test : List ℕ → Bool) → test [] ≡ true → (terms : List (List ℕ)) → every test (live terms) ≡ true → every test terms ≡ true
unfolding live is_there keep every
live_all test none [] e = refl
live_all test none ([] ∷ terms) e = every_cons test [] terms none (live_all test none terms e)
live_all test none ((index ∷ term) ∷ terms) e =
    let p = every_uncons test (index ∷ term) (live terms) e in
    every_cons test (index ∷ term) terms p.0 (live_all test none terms p.1)

-- What good rows have: no index descends, and each is below 2n.
module _ (modes count : ℕ) (rows : List ℕ) (good : GoodRows modes count rows) where
  pub good_ascending : AscendingRows count rows
  good_ascending = record {
    few = good.few;
    held = good.held;
    ascending =
        every_also (good_term (2 * modes)) ascends (λ term e. (good_term_says (2 * modes) term e).ascending) (terms_of 8 count rows) good.good;
  }

  pub good_below : every (every (λ index. ltb index (2 * modes))) (terms_of 8 count rows) ≡ true
  good_below =
      every_also (good_term (2 * modes)) (every (λ index. ltb index (2 * modes))) (λ term e. (good_term_says (2 * modes) term e).below)
      (terms_of 8 count rows) good.good

module _ (modes count : ℕ) (rows own : List ℕ) (few : modes ≤ 256) (made : OperatorRows count rows own)
    (below : every (every (λ index. ltb index (2 * modes))) (terms_of 8 count rows) ≡ true) where
  pub operators_weigh : (table : List ℕ) → listed_weight modes table (terms_of 9 count own) ≡ tree_weight modes table (terms_of 8 count rows)
  unfolding listed_weight tree_weight operators
  operators_weigh table =
      sym (live_weighs (row_weight modes table) (empty_weighs modes table) (terms_of 9 count own))
      ∙ ap (sum_of (row_weight modes table)) (made.terms (2 * modes) (omega arith) below)
      ∙ firsts_live (row_weight modes table) (empty_weighs modes table) (map (surviving (2 * modes)) (terms_of 8 count rows))

  survive_below : (terms : List (List ℕ)) → every (every (λ index. ltb index (2 * modes))) (map (surviving (2 * modes)) terms) ≡ true
  unfolding every
  survive_below [] = refl
  survive_below (term ∷ terms) =
      every_cons (every (λ index. ltb index (2 * modes))) (surviving (2 * modes) term) (map (surviving (2 * modes)) terms)
      (surviving_below (2 * modes) term) (survive_below terms)

  pub operators_below : count ≤ 2048 → RowsBelow modes count own
  unfolding live firsts every
  operators_below short = record {
    few = short;
    held = made.held;
    below =
        live_all (every (λ index. ltb index (2 * modes))) refl (terms_of 9 count own)
        (rw (made.terms (2 * modes) (omega arith) below)
        (every_first (every (λ index. ltb index (2 * modes))) alike [] (live (map (surviving (2 * modes)) (terms_of 8 count rows)))
        (every_kept (every (λ index. ltb index (2 * modes))) is_there (map (surviving (2 * modes)) (terms_of 8 count rows)) (survive_below (terms_of 8 count rows)))));
  }
