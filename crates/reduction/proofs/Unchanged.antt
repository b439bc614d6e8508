-- A term with none of the three numbers is as it was.
use mathlib.Core.Path.{◌≡◌, refl, ap, ◌∙◌}
use mathlib.Core.Bool.{true}
use mathlib.Core.List.{List, [], ◌∷◌, map}
use Prim.Native.Nat.{ℕ}
use borrow.Author.Tests.{ne_eqb}
use Rattle.lists.specs.Counting.{occurrences}
use Rattle.lists.specs.Ranges.{ascends}
use Rattle.lists.proofs.Counting.{occurs_not}
use Rattle.entities.specs.declared.Triple.{Triple}
use Rattle.reduction.specs.Reduction.{replacement, sorted, rewriting}
use Rattle.reduction.proofs.SortedRight.{sorted_already}

module _ (triple : Triple) (parent : ℕ) where
  none_replaced : (l : List ℕ)
      → occurrences triple.x l ≡ 0 → occurrences triple.y l ≡ 0 → occurrences triple.z l ≡ 0
      → map (replacement triple parent) l ≡ l
  unfolding replacement
  none_replaced [] ex ey ez = refl
  none_replaced (number ∷ l) ex ey ez =
      let x = occurs_not triple.x number l ex in
      let y = occurs_not triple.y number l ey in
      let z = occurs_not triple.z number l ez in
      rw (ne_eqb number triple.x x.0, ne_eqb number triple.y y.0, ne_eqb number triple.z z.0)
      (ap (λ rest. number ∷ rest) (none_replaced l x.1 y.1 z.1))

  pub unchanged : (l : List ℕ) → ascends l ≡ true
      → occurrences triple.x l ≡ 0 → occurrences triple.y l ≡ 0 → occurrences triple.z l ≡ 0
      → rewriting triple parent l ≡ l
  unfolding rewriting
  unchanged l e ex ey ez = ap sorted (none_replaced l ex ey ez) ∙ sorted_already l e
