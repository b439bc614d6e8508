-- Lists joined of parts that are all as long: how many elements there are, and the k-th of them.
use mathlib.Core.Path.{◌≡◌, refl, ap, ◌∙◌, sym}
use mathlib.Core.List.{List, [], ◌∷◌, ◌++◌, flat_map, Memᴰ}
use Prim.Native.Nat.{ℕ, zero, suc, ◌+◌, ◌-◌, ◌*◌, ◌/◌, ◌%◌, ◌<◌}
use native.Mathlib.Nat.{suc-mul, zero-mul, div-eq_of_lt, mod-eq_of_lt, add-div_left, add-mod_left}
use native.Mathlib.Numerals.{add-one}
use native.Mathlib.Omega.{arith}
use borrow.Author.Tests.{ltb-true, ltb-false}
use mathlib.Core.Bool.{Bool, true, false}
use lib.Dec.{ltb}
use lib.ListN.{length, get_or, length-append, get_or-append}
use lib.Seq.{get_or-append-add}

-- What stands at a place of a list is in it.
pub member_at : {A : Type 0} (l : List A) (i : ℕ) (d : A) → i < length l → Memᴰ (get_or l i d) l
member_at [] i d h = absurd (omega arith)
member_at (a ∷ l) zero d h = Memᴰ.head refl
member_at (a ∷ l) (suc i) d h = Memᴰ.tail (member_at l i d (omega arith))

module _ {A B : Type 0} (f : A → List B) (size : ℕ) where
  pub length_parts : (l : List A) → ((a : A) → Memᴰ a l → length (f a) ≡ size) → length (flat_map f l) ≡ length l * size
  unfolding flat_map
  length_parts [] each = sym (zero-mul size)
  length_parts (a ∷ l) each =
      rw (suc-mul (length l) size, length-append (f a) (flat_map f l), each a (Memᴰ.head refl), length_parts l (λ b m. each b (Memᴰ.tail m)))
      (omega arith)

  pub getD_parts : 0 < size → (l : List A) → ((a : A) → Memᴰ a l → length (f a) ≡ size) → (k : ℕ) (none : A) (d : B) → k < length l * size
      → get_or (flat_map f l) k d ≡ get_or (f (get_or l (k / size) none)) (k % size) d
  unfolding flat_map
  getD_parts some [] each k none d h = absurd (omega (arith, zero-mul size))
  getD_parts some (a ∷ l) each k none d h =
      go (ltb k size) refl (λ i. getD_parts some l (λ b m. each b (Memᴰ.tail m)) i none d)
    where
      long : length (f a) ≡ size
      long = each a (Memᴰ.head refl)

      later : (i : ℕ) → k ≡ size + i → (i < length l * size → get_or (flat_map f l) i d ≡ get_or (f (get_or l (i / size) none)) (i % size) d)
          → get_or (f a ++ flat_map f l) k d ≡ get_or (f (get_or (a ∷ l) (k / size) none)) (k % size) d
      later i e on =
          let within : i < length l * size = omega (arith, suc-mul (length l) size) in
          let shift : k ≡ length (f a) + i = omega (arith, long) in
          let over : k / size ≡ suc (i / size) = ap (λ n. n / size) e ∙ add-div_left i {k = size} some ∙ add-one (i / size) in
          let rest : k % size ≡ i % size = ap (λ n. n % size) e ∙ add-mod_left size i in
          rw (over, rest) (ap (λ n. get_or (f a ++ flat_map f l) n d) shift ∙ get_or-append-add (f a) (flat_map f l) i d ∙ on within)

      go : (b : Bool) → ltb k size ≡ b
          → ((i : ℕ) → i < length l * size → get_or (flat_map f l) i d ≡ get_or (f (get_or l (i / size) none)) (i % size) d)
          → get_or (f a ++ flat_map f l) k d ≡ get_or (f (get_or (a ∷ l) (k / size) none)) (k % size) d
      go true e on =
          let below = ltb-true k size e in
          rw (div-eq_of_lt below, mod-eq_of_lt below) (get_or-append (f a) (flat_map f l) d k (omega (arith, long)))
      go false e on =
          let above = ltb-false k size e in
          later (k - size) (omega arith) (on (k - size))
