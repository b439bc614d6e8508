-- One step along a range: what a loop that counts upward to an end has still to see.
use mathlib.Core.Path.{◌≡◌, refl, ap, ◌∙◌, sym}
use mathlib.Core.Bool.{Bool, true, false, cond, true≢false}
use mathlib.Core.List.{List, [], ◌∷◌, ◌++◌, map, flat_map}
use Prim.Native.Nat.{ℕ, zero, suc, ◌+◌, ◌-◌, ◌<◌, ◌≤◌}
use native.Mathlib.Numerals.{add-one}
use native.Mathlib.Nat.{sub-zero}
use native.Mathlib.Omega.{arith}
use borrow.Author.Tests.{eqb-true, eqb-false}
use lib.Dec.{eqb}
use Rattle.lists.specs.Counting.{sum}
use Rattle.lists.specs.Members.{every, keep, some_of, leading}
use Rattle.lists.specs.Ranges.{listed}
use Rattle.lists.proofs.Every.{every_cons, every_uncons}
use Rattle.lists.proofs.Kept.{keep_none}

module _ {A : Type 0} (rule : ℕ → A) where
  pub listed_start : (end : ℕ) → listed rule 0 end ≡ listed rule 0 (end - 0)
  listed_start end = rw sub-zero

  module _ (end at : ℕ) where
    pub listed_step : at < end → listed rule at (end - at) ≡ rule at ∷ listed rule (at + 1) (end - (at + 1))
    unfolding listed
    listed_step h = let e : end - at ≡ suc (end - (at + 1)) = omega arith in rw (e, add-one at)

    pub listed_end : end ≤ at → listed rule at (end - at) ≡ []
    unfolding listed
    listed_end h = let e : end - at ≡ 0 = omega arith in rw e

module _ {A : Type 0} (test : A → Bool) (rule : ℕ → A) (end at : ℕ) where
  pub keep_on : at < end
      → keep test (listed rule at (end - at)) ≡ cond (test (rule at)) (rule at ∷ []) [] ++ keep test (listed rule (at + 1) (end - (at + 1)))
  unfolding keep
  keep_on h = rw (listed_step rule end at h)

  pub keep_done : end ≤ at → keep test (listed rule at (end - at)) ≡ []
  unfolding keep
  keep_done h = rw (listed_end rule end at h)

module _ {A : Type 0} (f : A → ℕ) (rule : ℕ → A) (end at : ℕ) where
  pub sum_on : at < end → sum (map f (listed rule at (end - at))) ≡ f (rule at) + sum (map f (listed rule (at + 1) (end - (at + 1))))
  unfolding sum
  sum_on h = rw (listed_step rule end at h)

  pub sum_done : end ≤ at → sum (map f (listed rule at (end - at))) ≡ 0
  unfolding sum
  sum_done h = rw (listed_end rule end at h)

module _ {A B : Type 0} (f : A → List B) (rule : ℕ → A) (end at : ℕ) where
  pub flatMap_on : at < end → flat_map f (listed rule at (end - at)) ≡ f (rule at) ++ flat_map f (listed rule (at + 1) (end - (at + 1)))
  unfolding flat_map
  flatMap_on h = rw (listed_step rule end at h)

  pub flatMap_done : end ≤ at → flat_map f (listed rule at (end - at)) ≡ []
  unfolding flat_map
  flatMap_done h = rw (listed_end rule end at h)

-- A test that holds throughout a range, of one of it, or of all that lead.
module _ (test : ℕ → Bool) where
  pub every_within : (from count v : ℕ) → every test (listed (λ u. u) from count) ≡ true → from ≤ v → v < from + count → test v ≡ true
  unfolding every listed
  every_within from zero v e low high = absurd (omega arith)
  every_within from (suc count) v e low high =
      let p = every_uncons test from (listed (λ u. u) (suc from) count) e in
      go (eqb v from) refl p.0 (every_within (suc from) count v p.1)
    where
      go : (b : Bool) → eqb v from ≡ b → test from ≡ true → (suc from ≤ v → v < suc from + count → test v ≡ true) → test v ≡ true
      go true q first on = rw (eqb-true v from q) first
      go false q first on = let other = eqb-false v from q in on (omega arith) (omega arith)

  pub every_from : (from count : ℕ) → ((v : ℕ) → from ≤ v → v < from + count → test v ≡ true) → every test (listed (λ u. u) from count) ≡ true
  unfolding every listed
  every_from from zero h = refl
  every_from from (suc count) h =
      every_cons test from (listed (λ u. u) (suc from) count) (h from (omega arith) (omega arith))
      (every_from (suc from) count (λ v low high. h v (omega arith) (omega arith)))

  pub some_within : (from count : ℕ) → some_of test (listed (λ u. u) from count) ≡ true → (v : ℕ) × (v < from + count) × (test v ≡ true)
  unfolding some_of listed
  some_within from zero e = absurd (true≢false (sym e))
  some_within from (suc count) e = go (test from) refl (some_within (suc from) count)
    where
      go : (b : Bool) → test from ≡ b → (some_of test (listed (λ u. u) (suc from) count) ≡ true → (v : ℕ) × (v < suc from + count) × (test v ≡ true))
          → (v : ℕ) × (v < from + suc count) × (test v ≡ true)
      go true q on = (from, omega arith, q)
      go false q on = let r = on (rw q at e) in (r.0, omega (arith, r.1), r.2)

  pub some_from : (from count v : ℕ) → from ≤ v → v < from + count → test v ≡ true → some_of test (listed (λ u. u) from count) ≡ true
  unfolding some_of listed
  some_from from zero v low high e = absurd (omega arith)
  some_from from (suc count) v low high e = go (test from) refl (eqb v from) refl (some_from (suc from) count v)
    where
      go : (b : Bool) → test from ≡ b → (c : Bool) → eqb v from ≡ c
          → (suc from ≤ v → v < suc from + count → test v ≡ true → some_of test (listed (λ u. u) (suc from) count) ≡ true)
          → some_of test (listed (λ u. u) from (suc count)) ≡ true
      go true q c r on = rw q
      go false q true r on = absurd (true≢false (sym e ∙ ap test (eqb-true v from r) ∙ q))
      go false q false r on = let other = eqb-false v from r in rw q (on (omega arith) (omega arith) e)

  pub leading_from : (from count : ℕ) → ((v : ℕ) → from ≤ v → v < from + count → test v ≡ true) → leading test (listed (λ u. u) from count) ≡ count
  unfolding leading listed
  leading_from from zero h = refl
  leading_from from (suc count) h =
      rw (h from (omega arith) (omega arith)) (ap suc (leading_from (suc from) count (λ v low high. h v (omega arith) (omega arith))))

-- Two tests that agree on what a rule lists keep the same of it.
pub keep_same : {A : Type 0} (rule : ℕ → A) (test other : A → Bool) → ((i : ℕ) → test (rule i) ≡ other (rule i)) → (from count : ℕ)
    → keep test (listed rule from count) ≡ keep other (listed rule from count)
unfolding keep listed
keep_same rule test other same from zero = refl
keep_same rule test other same from (suc count) = rw (same from, keep_same rule test other same (suc from) count)

-- Two tests that agree on a range keep the same of it; one that fails on all of it keeps none.
pub keep_within : (test other : ℕ → Bool) (from count : ℕ) → ((v : ℕ) → from ≤ v → v < from + count → test v ≡ other v)
    → keep test (listed (λ u. u) from count) ≡ keep other (listed (λ u. u) from count)
unfolding keep listed
keep_within test other from zero same = refl
keep_within test other from (suc count) same =
    rw (same from (omega arith) (omega arith), keep_within test other (suc from) count (λ v low high. same v (omega arith) (omega arith)))

pub keep_none_within : (test : ℕ → Bool) (from count : ℕ) → ((v : ℕ) → from ≤ v → v < from + count → test v ≡ false)
    → keep test (listed (λ u. u) from count) ≡ []
keep_none_within test from count none =
    keep_within test (λ v. false) from count none ∙ keep_none (λ v. false) (λ v. refl) (listed (λ u. u) from count)
