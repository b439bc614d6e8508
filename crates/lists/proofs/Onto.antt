-- A rule that takes the numbers below a count to numbers below it, no two to the same, arrives at each of them.
use mathlib.Core.Path.{◌≡◌, refl, ◌∙◌, sym}
use mathlib.Core.Bool.{Bool, true, false}
use mathlib.Core.List.{List, map}
use Prim.Native.Nat.{ℕ, zero, suc, ◌<◌, ◌≤◌}
use native.Mathlib.Omega.{arith}
use borrow.Author.Tests.{lt-ltb, ltb-true, eqb-true, eqb-false}
use lib.Dec.{eqb, ltb}
use lib.ListN.{length-map}
use Rattle.lists.specs.Counting.{same, occurrences}
use Rattle.lists.specs.Members.{every}
use Rattle.lists.specs.Ranges.{listed}
use Rattle.lists.proofs.Every.{every_mapped}
use Rattle.lists.proofs.Listed.{length_listed}
use Rattle.lists.proofs.Ranges.{every_from}
use Rattle.lists.proofs.Totals.{total, total_none, total_ones, total_same}
use Rattle.lists.proofs.Sums.{same_one, same_none, sum_occurrences, sum_map, sum_listed}
use Rattle.lists.proofs.Pigeonholes.{counted_all, values_same}

module _ (f : ℕ → ℕ) where
  -- How many numbers below a count the rule takes to v.
  unfoldable pub hits : ℕ → ℕ → ℕ
  hits count v = total (λ k. same (f k) v) count

  -- The numbers that it takes those below a count to.
  unfoldable pub images : ℕ → List ℕ
  images count = map f (listed (λ k. k) 0 count)

  images_hit : (count v : ℕ) → occurrences v (images count) ≡ hits count v
  unfolding images hits
  images_hit count v =
      sym (sum_occurrences v (map f (listed (λ k. k) 0 count))) ∙ sum_map (λ a. same a v) f (listed (λ k. k) 0 count)
      ∙ sum_listed (λ k. same (f k) v) count

  hit_once : (count v : ℕ) → ((j k : ℕ) → j < count → k < count → f j ≡ f k → j ≡ k) → hits count v ≤ 1
  unfolding hits total
  hit_once zero v apart = omega arith
  hit_once (suc count) v apart = go (eqb (f count) v) refl (hit_once count v (λ j k a b. apart j k (omega arith) (omega arith)))
    where
      go : (b : Bool) → eqb (f count) v ≡ b → total (λ k. same (f k) v) count ≤ 1 → total (λ k. same (f k) v) (suc count) ≤ 1
      go true q on =
          let e = eqb-true (f count) v q in
          let none = total_none (λ k. same (f k) v) count
          (λ k h. same_none (f k) v (λ g. absurd (omega (arith, apart k count (omega arith) (omega arith) (g ∙ sym e))))) in
          omega (arith, same_one (f count) v e)
      go false q on = omega (arith, same_none (f count) v (eqb-false (f count) v q))

  hit_from : (count v : ℕ) → 1 ≤ hits count v → (k : ℕ) × (k < count) × (f k ≡ v)
  unfolding hits total
  hit_from zero v h = absurd (omega arith)
  hit_from (suc count) v h = go (eqb (f count) v) refl (hit_from count v)
    where
      go : (b : Bool) → eqb (f count) v ≡ b → (1 ≤ total (λ k. same (f k) v) count → (k : ℕ) × (k < count) × (f k ≡ v))
          → (k : ℕ) × (k < suc count) × (f k ≡ v)
      go true q on = (count, omega arith, eqb-true (f count) v q)
      go false q on =
          let r = on (omega (arith, same_none (f count) v (eqb-false (f count) v q))) in
          (r.0, omega (arith, r.1), r.2)

  module _ (count : ℕ) (inside : (k : ℕ) → k < count → f k < count) (apart : (j k : ℕ) → j < count → k < count → f j ≡ f k → j ≡ k) where
    each_hit : (v : ℕ) → v < count → 1 ≡ hits count v
    unfolding images
    each_hit =
        let below : every (λ v. ltb v count) (images count) ≡ true =
        every_mapped (λ k. ltb k count) (λ v. ltb v count) f (λ k e. lt-ltb (f k) count (inside k (ltb-true k count e)))
        (listed (λ k. k) 0 count) (every_from (λ k. ltb k count) 0 count (λ k low high. lt-ltb k count (omega arith))) in
        let many : total (λ v. occurrences v (images count)) count ≡ count =
        counted_all count (images count) below ∙ length-map (listed (λ k. k) 0 count) f ∙ length_listed (λ k. k) 0 count in
        let all : total (hits count) count ≡ count =
        total_same (hits count) (λ v. occurrences v (images count)) count (λ v h. sym (images_hit count v)) ∙ many in
        values_same (λ v. 1) (hits count) count (λ v h. hit_once count v apart) (omega (arith, total_ones count))

    pub onto : (v : ℕ) → v < count → (k : ℕ) × (k < count) × (f k ≡ v)
    onto v h = hit_from count v (omega (arith, each_hit v h))
