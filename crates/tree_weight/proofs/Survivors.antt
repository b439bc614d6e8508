-- The surviving indices of a row: parity decides them, they ascend below the bound, and each occurs once or not at all.
use mathlib.Core.Path.{◌≡◌, refl, ◌∙◌, sym, ap}
use mathlib.Core.Bool.{Bool, true, false}
use mathlib.Core.List.{List}
use Prim.Native.Nat.{ℕ, ◌%◌, ◌<◌}
use native.Mathlib.Omega.{arith}
use borrow.Author.Tests.{eqb-true, eqb-false, lt-ltb}
use lib.Dec.{eqb, ltb}
use Rattle.lists.specs.Counting.{occurrences}
use Rattle.lists.specs.Members.{every, keep}
use Rattle.lists.specs.Ranges.{listed, ascends}
use Rattle.lists.proofs.Ascending.{in_order}
use Rattle.lists.proofs.Every.{every_kept}
use Rattle.lists.proofs.Ordered.{counted_ascends, kept_ascends}
use Rattle.lists.proofs.Ranges.{every_from, keep_within}
use Rattle.lists.proofs.Sums.{one_if}
use Rattle.lists.proofs.NumberByNumber.{occurs_kept}
use Rattle.terms.specs.Letters.{odd}
use Rattle.tree_weight.specs.Operators.{surviving, ParitySurvives}

pub parity_survives : ParitySurvives
unfolding surviving
parity_survives bound term other same =
    keep_within (λ index. odd (occurrences index term)) (λ index. odd (occurrences index other)) 0 bound
    (λ index low high. ap (λ parity. eqb parity 1) (same index (omega arith)))

module _ (bound : ℕ) (term : List ℕ) where
  abbrev test : ℕ → Bool
  test index = odd (occurrences index term)

  pub surviving_below : every (λ index. ltb index bound) (surviving bound term) ≡ true
  unfolding surviving
  surviving_below =
      every_kept (λ index. ltb index bound) test (listed (λ index. index) 0 bound)
      (every_from (λ index. ltb index bound) 0 bound (λ v low high. lt-ltb v bound (omega arith)))

  pub surviving_ascends : ascends (surviving bound term) ≡ true
  unfolding surviving
  surviving_ascends =
      in_order (keep test (listed (λ index. index) 0 bound)) (kept_ascends ◌<◌ test (listed (λ index. index) 0 bound) (counted_ascends 0 bound))

  pub surviving_parity : (index : ℕ) → index < bound → occurrences index (surviving bound term) % 2 ≡ occurrences index term % 2
  unfolding surviving
  surviving_parity index h = ap (λ n. n % 2) (occurs_kept test bound index h) ∙ go (occurrences index term) (odd (occurrences index term)) refl
    where
      go : (n : ℕ) (b : Bool) → odd n ≡ b → one_if b % 2 ≡ n % 2
      go n true e = sym (eqb-true (n % 2) 1 e)
      go n false e = let apart = eqb-false (n % 2) 1 e in omega arith
