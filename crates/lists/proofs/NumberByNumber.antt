-- What numbers below a bound come to, number by number: how often each occurs, and of those kept of a range each once.
use mathlib.Core.Path.{◌≡◌, refl, ◌∙◌, sym, ap}
use mathlib.Core.Bool.{Bool, true, false, cond}
use mathlib.Core.List.{List, [], ◌∷◌, map}
use Prim.Native.Nat.{ℕ, zero, suc, ◌+◌, ◌%◌, ◌<◌}
use native.Mathlib.Omega.{arith}
use borrow.Author.Tests.{ltb-true}
use lib.Dec.{eqb, ltb}
use Rattle.lists.specs.Counting.{same, occurrences}
use Rattle.lists.specs.Members.{every, keep}
use Rattle.lists.specs.Ranges.{listed}
use Rattle.lists.proofs.Every.{every_uncons}
use Rattle.lists.proofs.Totals.{total, total_same, total_none, total_add, total_single}
use Rattle.lists.proofs.Sums.{one_if, same_one, same_none, sum_occurrences, sum_keep, sum_listed}

-- Two rules with the same parity at every number have totals of one parity.
pub total_parity : (f g : ℕ → ℕ) (count : ℕ) → ((k : ℕ) → k < count → f k % 2 ≡ g k % 2) → total f count % 2 ≡ total g count % 2
unfolding total
total_parity f g zero h = refl
total_parity f g (suc count) h =
    let here = h count (omega arith) in
    let below = total_parity f g count (λ k l. h k (omega arith)) in
    omega arith

-- Of a range kept, a number of it occurs once or not at all.
pub occurs_kept : (test : ℕ → Bool) (bound v : ℕ) → v < bound → occurrences v (keep test (listed (λ u. u) 0 bound)) ≡ one_if (test v)
occurs_kept test bound v h =
    sym (sum_occurrences v (keep test (listed (λ u. u) 0 bound)))
    ∙ sum_keep (λ a. same a v) test (listed (λ u. u) 0 bound)
    ∙ sum_listed (λ a. cond (test a) (same a v) 0) bound
    ∙ total_single (λ a. cond (test a) (same a v) 0) bound v h (λ k l apart. go k (test k) apart)
    ∙ ap (λ n. cond (test v) n 0) (same_one v v refl)
  where
    go : (k : ℕ) (b : Bool) → (k ≡ v → ⊥) → cond b (same k v) 0 ≡ 0
    go k true apart = same_none k v apart
    go k false apart = refl

one_more : (b : Bool) (one rest : ℕ) → cond b (one + rest) 0 ≡ cond b one 0 + cond b rest 0
one_more true one rest = refl
one_more false one rest = refl

none_else : (b : Bool) (x k : ℕ) → (k ≡ x → ⊥) → cond b (same x k) 0 ≡ 0
none_else true x k apart = same_none x k (λ q. apart (sym q))
none_else false x k apart = refl

nothing : (b : Bool) → ◌≡◌ {A = ℕ} (cond b 0 0) 0
nothing true = refl
nothing false = refl

-- How often a value is a rule's, told by how often each number occurs.
pub tallied : (f : ℕ → ℕ) (e bound : ℕ) (l : List ℕ) → every (λ v. ltb v bound) l ≡ true
    → occurrences e (map f l) ≡ total (λ v. cond (eqb (f v) e) (occurrences v l) 0) bound
unfolding occurrences same
tallied f e bound [] below = sym (total_none (λ v. cond (eqb (f v) e) 0 0) bound (λ k h. nothing (eqb (f k) e)))
tallied f e bound (x ∷ l) below =
    let p = every_uncons (λ v. ltb v bound) x l below in
    let here : total (λ v. cond (eqb (f v) e) (same x v) 0) bound ≡ same (f x) e =
    total_single (λ v. cond (eqb (f v) e) (same x v) 0) bound x (ltb-true x bound p.0) (λ k h apart. none_else (eqb (f k) e) x k apart)
    ∙ ap (λ n. cond (eqb (f x) e) n 0) (same_one x x refl) in
    let rest = tallied f e bound l p.1 in
    let both = total_same (λ v. cond (eqb (f v) e) (same x v + occurrences v l) 0) (λ v. cond (eqb (f v) e) (same x v) 0 + cond (eqb (f v) e) (occurrences v l) 0)
    bound (λ k h. one_more (eqb (f k) e) (same x k) (occurrences k l)) in
    let sum = total_add (λ v. cond (eqb (f v) e) (same x v) 0) (λ v. cond (eqb (f v) e) (occurrences v l) 0) bound in
    omega arith
