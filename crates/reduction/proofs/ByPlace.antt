-- What stands at each place after a reduction: the empty term or its row rewritten, and no row that stands before it.
use mathlib.Core.Path.{◌≡◌, refl, ap, ◌∙◌, sym}
use mathlib.Core.Bool.{Bool, true, false, not, true≢false}
use mathlib.Core.List.{List, []}
use mathlib.Core.Logic.{◌⊎◌, inl, inr}
use Prim.Native.Nat.{ℕ, ◌<◌}
use native.Mathlib.Omega.{arith}
use lib.ListN.{length, get_or, take}
use lib.Seq.{get_or-take, length-take-le}
use Rattle.lists.specs.Members.{some_of, alike}
use Rattle.lists.proofs.Alike.{alike_self}
use Rattle.lists.proofs.Firsts.{none_at}
use Rattle.lists.proofs.Renewed.{length_renewed, renewed_at}
use Rattle.lists.proofs.Tests.{both, not_so}
use Rattle.entities.specs.declared.Triple.{Triple}
use Rattle.terms.specs.declared.rules.Rule.{Rule}
use Rattle.reduction.specs.Reduction.{rewriting, dropped, stays, settled, reduced_row, reduction}

module _ (rule : Rule) (triple : Triple) (parent : ℕ) (terms : List (List ℕ)) where
  pub length_reduction : length (reduction rule triple parent terms) ≡ length terms
  unfolding reduction
  length_reduction = length_renewed (reduced_row rule triple parent) terms

  -- The rows before a place are reduced already, and what stands there is settled beside them.
  module _ (place : ℕ) (inside : place < length terms) where
    abbrev before : List (List ℕ)
    before = take place (reduction rule triple parent terms)

    abbrev new : List ℕ
    new = rewriting triple parent (get_or terms place [])

    abbrev here : List ℕ
    here = get_or (reduction rule triple parent terms) place []

    here_is : here ≡ settled rule parent before new
    unfolding reduction reduced_row
    here_is = renewed_at (reduced_row rule triple parent) terms place [] inside

    gone : stays rule parent before new ≡ false → here ≡ []
    unfolding settled
    gone e = here_is ∙ rw e

    there : stays rule parent before new ≡ true → here ≡ new
    unfolding settled
    there e = here_is ∙ rw e

    pub reduced_at : (here ≡ []) ⊎ (here ≡ new)
    reduced_at = go (stays rule parent before new) refl
      where
        go : (b : Bool) → stays rule parent before new ≡ b → (here ≡ []) ⊎ (here ≡ new)
        go false e = inl (gone e)
        go true e = inr (there e)

    none_before : stays rule parent before new ≡ true → some_of (alike new) before ≡ false
    unfolding stays
    none_before e = not_so _ (λ found. true≢false (sym (both (not (dropped rule parent new)) _ e).1 ∙ ap not found))

    pub no_two_equal : (earlier : ℕ) → earlier < place → 0 < length here
        → get_or (reduction rule triple parent terms) earlier [] ≡ here → ⊥
    no_two_equal earlier h some same = go (stays rule parent before new) refl
      where
        go : (b : Bool) → stays rule parent before new ≡ b → ⊥
        go false e = absurd (omega (arith, some, ap length (gone e)))
        go true e =
            let all : length before ≡ place = length-take-le place (reduction rule triple parent terms) (omega (arith, length_reduction)) in
            let other : get_or before earlier [] ≡ new = get_or-take place (reduction rule triple parent terms) earlier [] h ∙ same ∙ there e in
            true≢false
            (sym (alike_self new)
            ∙ ap (alike new) (sym other)
            ∙ none_at (alike new) before earlier [] (omega (arith, all)) (none_before e))
