-- The total of a rule over the numbers below a count.
use mathlib.Core.Path.{◌≡◌, refl, ap}
use mathlib.Core.Bool.{Bool, true, false, cond}
use Prim.Native.Nat.{ℕ, zero, suc, ◌+◌, ◌*◌, ◌<◌}
use native.Mathlib.Nat.{add-zero, add-suc, mul-add, mul-zero}
use native.Mathlib.Omega.{arith}
use borrow.Author.Tests.{eq-eqb, ne_eqb, eqb-true, eqb-false}
use lib.Dec.{eqb}

-- The sum of the rule's values at 0, 1, … below the count.
unfoldable pub total : (ℕ → ℕ) → ℕ → ℕ
total rule zero = 0
total rule (suc count) = total rule count + rule count

-- The rule with nothing at this point.
unfoldable pub without : ℕ → (ℕ → ℕ) → ℕ → ℕ
without point rule k = cond (eqb k point) 0 (rule k)

pub without_here : (point : ℕ) (rule : ℕ → ℕ) → without point rule point ≡ 0
unfolding without
without_here point rule = rw (eq-eqb point point refl)

pub without_there : (point : ℕ) (rule : ℕ → ℕ) (k : ℕ) → (k ≡ point → ⊥) → without point rule k ≡ rule k
unfolding without
without_there point rule k h = rw (ne_eqb k point h)

pub total_same : (f g : ℕ → ℕ) (count : ℕ) → ((k : ℕ) → k < count → f k ≡ g k) → total f count ≡ total g count
unfolding total
total_same f g zero h = refl
total_same f g (suc count) h =
    let here = h count (omega arith) in
    let below = total_same f g count (λ k l. h k (omega arith)) in
    cc

pub total_none : (f : ℕ → ℕ) (count : ℕ) → ((k : ℕ) → k < count → f k ≡ 0) → total f count ≡ 0
unfolding total
total_none f zero h = refl
total_none f (suc count) h =
    let here = h count (omega arith) in
    let below = total_none f count (λ k l. h k (omega arith)) in
    omega arith

pub total_ones : (count : ℕ) → total (λ k. 1) count ≡ count
unfolding total
total_ones zero = refl
total_ones (suc count) = let below = total_ones count in omega arith

pub total_add : (f g : ℕ → ℕ) (count : ℕ) → total (λ k. f k + g k) count ≡ total f count + total g count
unfolding total
total_add f g zero = refl
total_add f g (suc count) = let below = total_add f g count in omega arith

pub total_times : (c : ℕ) (f : ℕ → ℕ) (count : ℕ) → total (λ k. c * f k) count ≡ c * total f count
unfolding total
total_times c f zero = rw mul-zero
total_times c f (suc count) = rw (total_times c f count, mul-add c (total f count) (f count))

-- Taking the rule's value away at one point lowers the total by that value.
pub total_apart : (f : ℕ → ℕ) (count point : ℕ) → point < count → total f count ≡ f point + total (without point f) count
unfolding total
total_apart f zero point h = absurd (omega arith)
total_apart f (suc count) point h = go (total_apart f count point) (eqb count point) refl
  where
    go : (point < count → total f count ≡ f point + total (without point f) count) → (b : Bool) → eqb count point ≡ b
        → total f count + f count ≡ f point + (total (without point f) count + without point f count)
    go below true e =
        let at : count ≡ point = eqb-true count point e in
        let here : without point f count ≡ 0 = rw at (without_here point f) in
        let there : total (without point f) count ≡ total f count =
        total_same (without point f) f count (λ k l. without_there point f k (λ q. omega arith)) in
        let value : f count ≡ f point = ap f at in
        omega arith
    go below false e =
        let apart : count ≡ point → ⊥ = eqb-false count point e in
        let here : without point f count ≡ f count = without_there point f count apart in
        let rest = below (omega arith) in
        omega arith

-- A rule with one value only.
pub total_single : (f : ℕ → ℕ) (count point : ℕ) → point < count → ((k : ℕ) → k < count → (k ≡ point → ⊥) → f k ≡ 0)
    → total f count ≡ f point
unfolding without
total_single f count point h zeros =
    let none : total (without point f) count ≡ 0 = total_none (without point f) count (λ k l. go k l (eqb k point) refl) in
    let apart = total_apart f count point h in
    omega arith
  where
    go : (k : ℕ) → k < count → (b : Bool) → eqb k point ≡ b → without point f k ≡ 0
    go k l true e = rw e
    go k l false e = rw e (zeros k l (eqb-false k point e))

-- Two rules that differ at one point only, where the second has nothing.
pub total_changed : (f g : ℕ → ℕ) (count point : ℕ) → point < count → ((k : ℕ) → k < count → (k ≡ point → ⊥) → f k ≡ g k) → g point ≡ 0
    → total f count ≡ total g count + f point
unfolding without
total_changed f g count point h alike none =
    let rest : total (without point f) count ≡ total (without point g) count =
    total_same (without point f) (without point g) count (λ k l. go k l (eqb k point) refl) in
    omega (arith, total_apart f count point h, total_apart g count point h, rest, none)
  where
    go : (k : ℕ) → k < count → (b : Bool) → eqb k point ≡ b → without point f k ≡ without point g k
    go k l true e = rw e
    go k l false e = rw e (alike k l (eqb-false k point e))

-- The total from the front.
pub total_first : (f : ℕ → ℕ) (count : ℕ) → total f (suc count) ≡ f 0 + total (λ k. f (suc k)) count
unfolding total
total_first f zero = omega arith
total_first f (suc count) = let below = total_first f count in omega arith

-- The total over the first so many and over those that follow.
pub total_parts : (f : ℕ → ℕ) (first second : ℕ) → total f (first + second) ≡ total f first + total (λ k. f (first + k)) second
unfolding total
total_parts f first zero = rw (add-zero first) (omega arith)
total_parts f first (suc second) = rw (add-suc first second) (let rest = total_parts f first second in omega arith)

-- Numbers added up two by two.
pub total_pairs : (f : ℕ → ℕ) (count : ℕ) → total f (2 * count) ≡ total (λ k. f (2 * k) + f (2 * k + 1)) count
unfolding total
total_pairs f zero = refl
total_pairs f (suc count) =
    let e : 2 * suc count ≡ suc (suc (2 * count)) = omega arith in
    let o : suc (2 * count) ≡ 2 * count + 1 = omega arith in
    rw e (omega (arith, total_pairs f count, ap f o))
