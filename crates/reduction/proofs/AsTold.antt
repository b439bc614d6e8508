-- The meaning is document 01's: without their places, the rows of a reduction are those that its sentence tells.
use mathlib.Core.Path.{◌≡◌, refl, ap, ◌∙◌}
use mathlib.Core.Bool.{Bool, true, false, cond, not, ◌||◌}
use mathlib.Core.List.{List, [], ◌∷◌, ◌++◌, map, append-nil}
use Prim.Native.Nat.{ℕ, ◌+◌, ◌<◌}
use native.Mathlib.Omega.{arith}
use lib.ListN.{length}
use Rattle.lists.specs.Counting.{sum, occurrences}
use Rattle.lists.specs.Members.{keep, some_of, alike, firsts, firsts_after}
use Rattle.lists.specs.Renewed.{renewed_after, renewed}
use Rattle.lists.proofs.Sums.{sum_of}
use Rattle.lists.proofs.Kept.{keep_joined}
use Rattle.entities.specs.declared.Triple.{Triple}
use Rattle.terms.specs.declared.rules.Rule.{Rule}
use Rattle.terms.specs.Letters.{letter_of, counted_letter}
use Rattle.terms.specs.Weight.{term_letter, term_weight, weight_of}
use Rattle.reduction.specs.Reduction.{sorted, rewriting, dropped, stays, settled, reduced_row, reduction, is_there, live, told_reduction}
use Rattle.reduction.proofs.SortedRight.{length_rewriting}

-- What weighs the empty term as nothing weighs those that are there as all.
pub live_weighs : (weight : List ℕ → ℕ) → weight [] ≡ 0 → (terms : List (List ℕ)) → sum_of weight (live terms) ≡ sum_of weight terms
unfolding live is_there keep sum
live_weighs weight none [] = refl
live_weighs weight none ([] ∷ terms) = omega (arith, none, live_weighs weight none terms)
live_weighs weight none ((index ∷ term) ∷ terms) = ap (λ n. weight (index ∷ term) + n) (live_weighs weight none terms)

-- A row that is gone weighs nothing.
pub gone_weighs_nothing : (triple : Triple) → term_weight triple [] ≡ 0
unfolding term_weight term_letter counted_letter letter_of occurrences
gone_weighs_nothing triple = refl

pub live_weight : (triple : Triple) (terms : List (List ℕ)) → weight_of triple (live terms) ≡ weight_of triple terms
unfolding weight_of
live_weight triple terms = live_weighs (term_weight triple) (gone_weighs_nothing triple) terms

-- No row that is gone has the term of one that is there.
some_live : (term : List ℕ) → 0 < length term → (terms : List (List ℕ)) → some_of (alike term) (live terms) ≡ some_of (alike term) terms
unfolding live is_there keep some_of alike
some_live [] h terms = absurd (omega arith)
some_live (index ∷ term) h [] = refl
some_live (index ∷ term) h ([] ∷ terms) = some_live (index ∷ term) h terms
some_live (index ∷ term) h ((other ∷ rest) ∷ terms) =
    ap (λ found. alike (index ∷ term) (other ∷ rest) || found) (some_live (index ∷ term) h terms)

pub is_there_so : (term : List ℕ) → 0 < length term → is_there term ≡ true
unfolding is_there
is_there_so [] h = absurd (omega arith)
is_there_so (index ∷ term) h = refl

live_gone : (front : List (List ℕ)) → live (front ++ ([] ∷ [])) ≡ live front
unfolding live is_there keep
live_gone front = keep_joined is_there front ([] ∷ []) ∙ append-nil (live front)

live_more : (front : List (List ℕ)) (term : List ℕ) → 0 < length term → live (front ++ (term ∷ [])) ≡ live front ++ (term ∷ [])
unfolding live is_there keep
live_more front term h = keep_joined is_there front (term ∷ []) ∙ rw (is_there_so term h)

module _ (rule : Rule) (triple : Triple) (parent : ℕ) where
  -- A row that is gone stays gone, whatever the rule says of its empty term.
  pub empty_reduced : (before : List (List ℕ)) → reduced_row rule triple parent before [] ≡ []
  unfolding reduced_row settled rewriting sorted
  empty_reduced before = go (stays rule parent before [])
    where
      go : (b : Bool) → cond {A = List ℕ} b [] [] ≡ []
      go true = refl
      go false = refl

  -- What the sentence tells of these rows, behind those kept.
  told : List (List ℕ) → List (List ℕ) → List (List ℕ)
  told kept terms = firsts_after alike kept (keep (λ term. not (dropped rule parent term)) (map (rewriting triple parent) terms))

  abbrev renew : List (List ℕ) → List ℕ → List ℕ
  renew = reduced_row rule triple parent

  abbrev new_term : ℕ → List ℕ → List ℕ
  new_term index term = rewriting triple parent (index ∷ term)

  there : (index : ℕ) (term : List ℕ) → 0 < length (new_term index term)
  there index term = rw (length_rewriting triple parent (index ∷ term)) (omega arith)

  -- A row that goes leaves those kept as they are, and one that stays is kept behind them.
  module _ (front terms : List (List ℕ)) (index : ℕ) (term : List ℕ)
      (goes : live (renewed_after renew (front ++ ([] ∷ [])) terms) ≡ told (live front) (live terms))
      (stays_there : live (renewed_after renew (front ++ (new_term index term ∷ [])) terms) ≡ told (live front ++ (new_term index term ∷ [])) (live terms)) where
    passed_one : (d : Bool) → dropped rule parent (new_term index term) ≡ d → (s : Bool) → some_of (alike (new_term index term)) front ≡ s
        → live (renewed_after renew front ((index ∷ term) ∷ terms)) ≡ told (live front) (live ((index ∷ term) ∷ terms))
    unfolding told live is_there keep renewed_after reduced_row settled stays firsts_after
    passed_one true e s f = rw e goes
    passed_one false e true f = rw (e, f, some_live (new_term index term) (there index term) front ∙ f, append-nil (live front)) goes
    passed_one false e false f =
        rw (e, f, some_live (new_term index term) (there index term) front ∙ f, is_there_so (new_term index term) (there index term))
        (ap (λ l. new_term index term ∷ l) stays_there)

  gone_passed : (front terms : List (List ℕ)) → live (renewed_after renew front ([] ∷ terms)) ≡ live (renewed_after renew (front ++ ([] ∷ [])) terms)
  unfolding renewed_after live is_there keep
  gone_passed front terms = rw (empty_reduced front) refl

  passed_live : (front terms : List (List ℕ)) → live (renewed_after renew front terms) ≡ told (live front) (live terms)
  unfolding told live is_there keep renewed_after firsts_after
  passed_live front [] = refl
  passed_live front ([] ∷ terms) =
      gone_passed front terms ∙ passed_live (front ++ ([] ∷ [])) terms ∙ ap (λ kept. told kept (live terms)) (live_gone front)
  passed_live front ((index ∷ term) ∷ terms) =
      passed_one front terms index term
      (passed_live (front ++ ([] ∷ [])) terms ∙ ap (λ kept. told kept (live terms)) (live_gone front))
      (passed_live (front ++ (new_term index term ∷ [])) terms
      ∙ ap (λ kept. told kept (live terms)) (live_more front (new_term index term) (there index term)))
      (dropped rule parent (new_term index term)) refl (some_of (alike (new_term index term)) front) refl

  pub as_told : (terms : List (List ℕ)) → live (reduction rule triple parent terms) ≡ told_reduction rule triple parent (live terms)
  unfolding told reduction renewed told_reduction firsts live keep
  as_told terms = passed_live [] terms
