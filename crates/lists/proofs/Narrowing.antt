-- The first of equals, some from the front and some up to the end: they stand in the list, in its order.
use mathlib.Core.Path.{refl}
use mathlib.Core.Bool.{Bool, true, false, cond}
use mathlib.Core.List.Memᴰ
use mathlib.Core.List.{List, [], ◌∷◌, ◌++◌, Memᴰ}
use mathlib.Core.Logic.{⊎_elim}
use Prim.Native.Nat.{ℕ, zero, suc, ◌<◌}
use native.Mathlib.Omega.{arith}
use lib.ListN.{length, take, drop}
use Rattle.lists.specs.Members.{some_of, firsts_after, firsts}
use Rattle.lists.specs.Ordered.{Ascending}

module _ {A : Type 0} where
  -- A list with an element isn't empty, and a list that isn't empty has one.
  pub some_member : {a : A} {l : List A} → Memᴰ a l → 0 < length l
  some_member (Memᴰ.head e) = omega arith
  some_member (Memᴰ.tail m) = omega arith

  pub member_of_some : (l : List A) → 0 < length l → (a : A) × Memᴰ a l
  member_of_some [] h = absurd (omega arith)
  member_of_some (a ∷ l) h = (a, Memᴰ.head refl)

  pub of_taken : {a : A} (n : ℕ) (l : List A) → Memᴰ a (take n l) → Memᴰ a l
  of_taken zero l m = absurd (Memᴰ.not-nil m)
  of_taken (suc n) [] m = absurd (Memᴰ.not-nil m)
  of_taken (suc n) (b ∷ l) m = ⊎_elim Memᴰ.head (λ later. Memᴰ.tail (of_taken n l later)) (Memᴰ.cases_cons m)

  pub of_dropped : {a : A} (n : ℕ) (l : List A) → Memᴰ a (drop n l) → Memᴰ a l
  of_dropped zero l m = m
  of_dropped (suc n) [] m = absurd (Memᴰ.not-nil m)
  of_dropped (suc n) (b ∷ l) m = Memᴰ.tail (of_dropped n l m)

module _ {A : Type 0} (like : A → A → Bool) where
  pub of_first : {a : A} (kept l : List A) → Memᴰ a (firsts_after like kept l) → Memᴰ a l
  unfolding firsts_after
  of_first kept [] m = absurd (Memᴰ.not-nil m)
  of_first {a} kept (b ∷ l) m = go (some_of (like b) kept) (λ k. of_first k l) m
    where
      go : (r : Bool) → ((k : List A) → Memᴰ a (firsts_after like k l) → Memᴰ a l)
          → Memᴰ a (cond r [] (b ∷ []) ++ firsts_after like (kept ++ cond r [] (b ∷ [])) l) → Memᴰ a (b ∷ l)
      go true on n = Memᴰ.tail (on _ n)
      go false on n = ⊎_elim Memᴰ.head (λ later. Memᴰ.tail (on _ later)) (Memᴰ.cases_cons n)

  -- Some list has a first of equals.
  pub some_first : (l : List A) → 0 < length l → 0 < length (firsts like l)
  unfolding firsts firsts_after some_of
  some_first [] h = absurd (omega arith)
  some_first (b ∷ l) h = omega arith

module _ {A : Type 0} (before : A → A → Type 0) where
  pub taken_ascends : (n : ℕ) (l : List A) → Ascending before l → Ascending before (take n l)
  taken_ascends zero l up = tt
  taken_ascends (suc n) [] up = tt
  taken_ascends (suc n) (a ∷ l) up = (λ b m. up.0 b (of_taken n l m), taken_ascends n l up.1)

  pub dropped_ascends : (n : ℕ) (l : List A) → Ascending before l → Ascending before (drop n l)
  dropped_ascends zero l up = up
  dropped_ascends (suc n) [] up = tt
  dropped_ascends (suc n) (a ∷ l) up = dropped_ascends n l up.1

  pub firsts_ascend : (like : A → A → Bool) (kept l : List A) → Ascending before l → Ascending before (firsts_after like kept l)
  unfolding firsts_after
  firsts_ascend like kept [] up = tt
  firsts_ascend like kept (a ∷ l) up = go (some_of (like a) kept) (λ k. firsts_ascend like k l up.1)
    where
      go : (r : Bool) → ((k : List A) → Ascending before (firsts_after like k l))
          → Ascending before (cond r [] (a ∷ []) ++ firsts_after like (kept ++ cond r [] (a ∷ [])) l)
      go true on = on _
      go false on = (λ b m. up.0 b (of_first like _ l m), on _)

  -- Where any element is before any, every list ascends.
  pub any_ascends : ((a b : A) → before a b) → (l : List A) → Ascending before l
  any_ascends all [] = tt
  any_ascends all (a ∷ l) = (λ b m. all a b, any_ascends all l)
