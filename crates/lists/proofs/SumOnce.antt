-- A list in which each number below a bound stands once, and besides them one number beyond it once, weighs what these numbers weigh.
use mathlib.Core.Path.{◌≡◌, refl, ◌∙◌, sym}
use mathlib.Core.Bool.{Bool, true, false, ◌||◌}
use mathlib.Core.List.{List, [], ◌∷◌}
use Prim.Native.Nat.{ℕ, ◌+◌, ◌*◌, ◌<◌, ◌≤◌}
use native.Mathlib.Nat.{zero-mul, one-mul, add-mul}
use native.Mathlib.Omega.{arith}
use borrow.Author.Tests.{eqb-true, ltb-true, ltb-false}
use lib.Dec.{eqb, ltb}
use Rattle.lists.specs.Counting.{sum, same, occurrences}
use Rattle.lists.specs.Members.{every}
use Rattle.lists.proofs.Every.{every_uncons}
use Rattle.lists.proofs.Totals.{total, total_same, total_none, total_add, total_single}
use Rattle.lists.proofs.Sums.{sum_of, same_one, same_none}

module _ (weight : ℕ → ℕ) (m x : ℕ) (beyond : m ≤ x) where
  abbrev known : ℕ → Bool
  known v = ltb v m || eqb v x

  apart : (a v : ℕ) → (a ≡ v → ⊥) → same a v * weight v ≡ 0
  apart a v other = rw (same_none a v other) (zero-mul (weight v))

  itself : (a : ℕ) → same a a * weight a ≡ weight a
  itself a = rw (same_one a a refl) (one-mul (weight a))

  -- One such number, counted by value.
  one_counted : (a : ℕ) → known a ≡ true → total (λ v. same a v * weight v) m + same a x * weight x ≡ weight a
  one_counted a k = go (ltb a m) refl
    where
      go : (b : Bool) → ltb a m ≡ b → total (λ v. same a v * weight v) m + same a x * weight x ≡ weight a
      go true q =
          let low = ltb-true a m q in
          omega (
            arith,
            total_single (λ v. same a v * weight v) m a low (λ v h other. apart a v (λ e. other (sym e))),
            itself a,
            apart a x (λ e. absurd (omega arith)),
          )
      go false q =
          let high = ltb-false a m q in
          let e = eqb-true a x (rw q at k) in
          let there : same a x * weight x ≡ weight a = rw e (itself x) in
          omega (arith, there, total_none (λ v. same a v * weight v) m (λ v h. apart a v (λ f. absurd (omega arith))))

  sum_counted : (l : List ℕ) → every known l ≡ true
      → sum_of weight l ≡ total (λ v. occurrences v l * weight v) m + occurrences x l * weight x
  unfolding sum occurrences
  sum_counted [] all = omega (arith, total_none (λ v. 0 * weight v) m (λ v h. zero-mul (weight v)), zero-mul (weight x))
  sum_counted (a ∷ l) all =
      let p = every_uncons known a l all in
      let split : total (λ v. (same a v + occurrences v l) * weight v) m
      ≡ total (λ v. same a v * weight v) m + total (λ v. occurrences v l * weight v) m =
      total_same (λ v. (same a v + occurrences v l) * weight v) (λ v. same a v * weight v + occurrences v l * weight v) m
      (λ v h. add-mul (same a v) (occurrences v l) (weight v))
      ∙ total_add (λ v. same a v * weight v) (λ v. occurrences v l * weight v) m in
      omega (arith, split, add-mul (same a x) (occurrences x l) (weight x), one_counted a p.0, sum_counted l p.1)

  pub sum_once : (l : List ℕ) → every known l ≡ true → ((v : ℕ) → v < m → occurrences v l ≡ 1) → occurrences x l ≡ 1
      → sum_of weight l ≡ total weight m + weight x
  sum_once l all each once =
      let below : total (λ v. occurrences v l * weight v) m ≡ total weight m =
      total_same (λ v. occurrences v l * weight v) weight m (λ v h. rw (each v h) (one-mul (weight v))) in
      let there : occurrences x l * weight x ≡ weight x = rw once (one-mul (weight x)) in
      omega (arith, sum_counted l all, below, there)
