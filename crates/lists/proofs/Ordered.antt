-- Lists in which each element is before every later one, and that keeping, joining and listing make such lists.
use mathlib.Core.Path.{refl}
use mathlib.Core.Bool.{Bool, true, false, cond}
use mathlib.Core.List.Memᴰ
use mathlib.Core.List.{List, [], ◌∷◌, ◌++◌, map, flat_map, Memᴰ}
use mathlib.Core.Logic.{⊎_elim}
use Prim.Native.Nat.{ℕ, zero, suc, ◌<◌}
use native.Mathlib.Omega.{arith}
use Rattle.lists.specs.Members.{keep}
use Rattle.lists.specs.Ordered.{Ascending}
use Rattle.lists.specs.Ranges.{listed}
use Rattle.lists.proofs.Membership.{of_kept, of_joined, of_counted}

pub counted_ascends : (from count : ℕ) → Ascending ◌<◌ (listed (λ number. number) from count)
unfolding listed
counted_ascends from zero = tt
counted_ascends from (suc count) = (λ b m. omega (arith, of_counted b (suc from) count m), counted_ascends (suc from) count)

module _ {A : Type 0} (before : A → A → Type 0) where
  pub kept_ascends : (test : A → Bool) (l : List A) → Ascending before l → Ascending before (keep test l)
  unfolding keep
  kept_ascends test [] up = tt
  kept_ascends test (a ∷ l) up = go (test a) (kept_ascends test l up.1)
    where
      go : (r : Bool) → Ascending before (keep test l) → Ascending before (cond r (a ∷ []) [] ++ keep test l)
      go true rest = (λ b m. up.0 b (of_kept test l m).0, rest)
      go false rest = rest

  pub append_ascends : (s t : List A) → Ascending before s → Ascending before t
      → ((a b : A) → Memᴰ a s → Memᴰ b t → before a b) → Ascending before (s ++ t)
  append_ascends [] t up_s up_t across = up_t
  append_ascends (a ∷ s) t up_s up_t across = (
    λ b m. ⊎_elim (up_s.0 b) (across a b (Memᴰ.head refl)) (Memᴰ.append_cases s m),
    append_ascends s t up_s.1 up_t (λ c b m. across c b (Memᴰ.tail m)),
  )

module _ {A B : Type 0} (lower : A → A → Type 0) (before : B → B → Type 0) where
  pub map_ascends : (f : A → B) → ((a c : A) → lower a c → before (f a) (f c))
      → (l : List A) → Ascending lower l → Ascending before (map f l)
  map_ascends f rises [] up = tt
  map_ascends f rises (a ∷ l) up =
      (λ b m. (let from = Memᴰ.of_map f l m in rw (← from.2) (rises a from.0 (up.0 from.0 from.1))), map_ascends f rises l up.1)

  pub joined_ascends : (f : A → List B) → ((a : A) → Ascending before (f a))
      → ((a c : A) → lower a c → (b d : B) → Memᴰ b (f a) → Memᴰ d (f c) → before b d)
      → (l : List A) → Ascending lower l → Ascending before (flat_map f l)
  unfolding flat_map
  joined_ascends f each rises [] up = tt
  joined_ascends f each rises (a ∷ l) up =
      append_ascends before (f a) (flat_map f l) (each a) (joined_ascends f each rises l up.1)
      (λ b d m n. (let from = of_joined f l n in rises a from.0 (up.0 from.0 from.1) b d m from.2))
