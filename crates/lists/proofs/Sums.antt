-- Lists weighed element by element: lengths, occurrences and kept elements are such sums, and over consecutive numbers a sum is a total.
use mathlib.Core.Path.{◌≡◌, refl, ap, ◌∙◌, sym}
use mathlib.Core.Bool.{Bool, true, false, cond}
use mathlib.Core.List.{List, [], ◌∷◌, ◌++◌, map, flat_map}
use Prim.Native.Nat.{ℕ, zero, suc, ◌+◌, ◌<◌, ◌≤◌}
use native.Mathlib.Nat.{add-zero, zero-add}
use native.Mathlib.Omega.{arith}
use borrow.Author.Tests.{eq-eqb, ne_eqb, eqb-true}
use lib.Dec.{eqb}
use lib.ListN.{length, length-append}
use Rattle.lists.specs.Counting.{sum, same, occurrences}
use Rattle.lists.specs.Members.{keep}
use Rattle.lists.specs.Ranges.{listed}
use Rattle.lists.proofs.Totals.{total, total_same, total_first, total_none, total_single}

-- 1 where the test holds, else 0.
abbrev pub one_if : Bool → ℕ
one_if test = cond test 1 0

pub same_one : (v x : ℕ) → v ≡ x → same v x ≡ 1
unfolding same
same_one v x e = rw (eq-eqb v x e)

pub same_none : (v x : ℕ) → (v ≡ x → ⊥) → same v x ≡ 0
unfolding same
same_none v x h = rw (ne_eqb v x h)

pub one_same : (v x : ℕ) → same v x ≡ 1 → v ≡ x
unfolding same
one_same v x = go (eqb v x) refl
  where
    go : (b : Bool) → eqb v x ≡ b → cond {A = ℕ} b 1 0 ≡ 1 → v ≡ x
    go true e one = eqb-true v x e
    go false e one = absurd (omega arith)

-- A number is once among the numbers below a count, or not at all.
pub total_once : (count v : ℕ) → v < count → total (λ k. same k v) count ≡ 1
total_once count v h = total_single (λ k. same k v) count v h (λ k l apart. same_none k v apart) ∙ same_one v v refl

pub total_never : (count v : ℕ) → count ≤ v → total (λ k. same k v) count ≡ 0
total_never count v h = total_none (λ k. same k v) count (λ k l. same_none k v (λ q. omega arith))

-- What each element of a list weighs, summed.
abbrev pub sum_of : {A : Type 0} → (A → ℕ) → List A → ℕ
sum_of weight l = sum (map weight l)

pub sum_append : {A : Type 0} (weight : A → ℕ) (l m : List A) → sum_of weight (l ++ m) ≡ sum_of weight l + sum_of weight m
unfolding sum
sum_append weight [] m = omega arith
sum_append weight (a ∷ l) m = let rest = sum_append weight l m in omega arith

pub sum_map : {A B : Type 0} (weight : B → ℕ) (f : A → B) (l : List A) → sum_of weight (map f l) ≡ sum_of (λ a. weight (f a)) l
unfolding sum
sum_map weight f [] = refl
sum_map weight f (a ∷ l) = let rest = sum_map weight f l in omega arith

pub sum_length : {A : Type 0} (l : List A) → sum_of (λ a. 1) l ≡ length l
unfolding sum
sum_length [] = refl
sum_length (a ∷ l) = let rest = sum_length l in omega arith

pub sum_occurrences : (v : ℕ) (l : List ℕ) → sum_of (λ a. same a v) l ≡ occurrences v l
unfolding sum occurrences
sum_occurrences v [] = refl
sum_occurrences v (a ∷ l) = rw (sum_occurrences v l)

pub occurrences_append : (v : ℕ) (l m : List ℕ) → occurrences v (l ++ m) ≡ occurrences v l + occurrences v m
unfolding occurrences
occurrences_append v [] m = omega arith
occurrences_append v (a ∷ l) m = let rest = occurrences_append v l m in omega arith

pub occurrences_flatMap : {A : Type 0} (v : ℕ) (f : A → List ℕ) (l : List A)
    → occurrences v (flat_map f l) ≡ sum_of (λ a. occurrences v (f a)) l
unfolding occurrences sum flat_map
occurrences_flatMap v f [] = refl
occurrences_flatMap v f (a ∷ l) = rw (occurrences_append v (f a) (flat_map f l), occurrences_flatMap v f l)

pub sum_keep : {A : Type 0} (weight : A → ℕ) (test : A → Bool) (l : List A)
    → sum_of weight (keep test l) ≡ sum_of (λ a. cond (test a) (weight a) 0) l
unfolding sum keep
sum_keep weight test [] = refl
sum_keep weight test (a ∷ l) = go (sum_keep weight test l) (test a)
  where
    go : sum_of weight (keep test l) ≡ sum_of (λ a. cond (test a) (weight a) 0) l
        → (b : Bool) → sum_of weight (cond b (a ∷ []) [] ++ keep test l) ≡ cond b (weight a) 0 + sum_of (λ a. cond (test a) (weight a) 0) l
    go rest true = omega arith
    go rest false = omega arith

pub length_keep : {A : Type 0} (test : A → Bool) (l : List A) → length (keep test l) ≡ sum_of (λ a. one_if (test a)) l
length_keep test l = sym (sum_length (keep test l)) ∙ sum_keep (λ a. 1) test l

pub length_flatMap : {A B : Type 0} (f : A → List B) (l : List A) → length (flat_map f l) ≡ sum_of (λ a. length (f a)) l
unfolding sum flat_map
length_flatMap f [] = refl
length_flatMap f (a ∷ l) = rw (length-append (f a) (flat_map f l), length_flatMap f l)

-- A sum over consecutive numbers is a total.
sum_from : (weight : ℕ → ℕ) (from count : ℕ) → sum_of weight (listed (λ k. k) from count) ≡ total (λ k. weight (from + k)) count
unfolding sum listed total
sum_from weight from zero = refl
sum_from weight from (suc count) =
    let rest : sum_of weight (listed (λ k. k) (suc from) count) ≡ total (λ k. weight (from + suc k)) count =
    sum_from weight (suc from) count ∙ total_same (λ k. weight (suc from + k)) (λ k. weight (from + suc k)) count (λ k l. ap weight (omega arith)) in
    let front = total_first (λ k. weight (from + k)) count in
    let here : weight (from + 0) ≡ weight from = ap weight (add-zero from) in
    omega arith

pub sum_listed : (weight : ℕ → ℕ) (count : ℕ) → sum_of weight (listed (λ k. k) 0 count) ≡ total weight count
sum_listed weight count =
    sum_from weight 0 count ∙ total_same (λ k. weight (0 + k)) weight count (λ k l. ap weight (zero-add k))
