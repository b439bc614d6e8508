-- What holds of every element holds at each place, and of the elements that are mapped, kept or the first of equals.
use mathlib.Core.Path.{◌≡◌, refl}
use mathlib.Core.Bool.{Bool, true, false, cond, and-eq-true_iff, and-false}
use mathlib.Core.List.{List, [], ◌∷◌, ◌++◌, map}
use Prim.Native.Nat.{ℕ, zero, suc, ◌<◌, ◌≤◌}
use native.Mathlib.Omega.{arith}
use borrow.Author.Tests.{ltb-true}
use lib.Dec.{ltb}
use lib.ListN.{length, get_or, take, drop}
use lib.Seq.{take-append_seam, drop-append_seam}
use Rattle.lists.specs.Members.{every, keep, leading, some_of, firsts_after}

module _ {A : Type 0} (test : A → Bool) where
  pub every_cons : (a : A) (l : List A) → test a ≡ true → every test l ≡ true → every test (a ∷ l) ≡ true
  unfolding every
  every_cons a l e f = rw e f

  pub every_uncons : (a : A) (l : List A) → every test (a ∷ l) ≡ true → (test a ≡ true) × (every test l ≡ true)
  unfolding every
  every_uncons a l e = (and-eq-true_iff (test a) (every test l)).0 e

  pub every_at : (l : List A) (i : ℕ) (d : A) → i < length l → every test l ≡ true → test (get_or l i d) ≡ true
  every_at [] i d h e = absurd (omega arith)
  every_at (a ∷ l) zero d h e = (every_uncons a l e).0
  every_at (a ∷ l) (suc i) d h e = every_at l i d (omega arith) (every_uncons a l e).1

  pub every_by_place : (l : List A) (d : A) → ((i : ℕ) → i < length l → test (get_or l i d) ≡ true) → every test l ≡ true
  unfolding every
  every_by_place [] d each = refl
  every_by_place (a ∷ l) d each = every_cons a l (each 0 (omega arith)) (every_by_place l d (λ i h. each (suc i) (omega arith)))

  pub every_append : (l m : List A) → every test l ≡ true → every test m ≡ true → every test (l ++ m) ≡ true
  every_append [] m e f = f
  every_append (a ∷ l) m e f =
      let p = every_uncons a l e in
      every_cons a (l ++ m) p.0 (every_append l m p.1 f)

  -- Where the test brings another with it, that one holds of every element too; where it rules another out, that one holds of none.
  pub every_also : (after : A → Bool) → ((a : A) → test a ≡ true → after a ≡ true) → (l : List A) → every test l ≡ true → every after l ≡ true
  unfolding every
  every_also after also [] e = refl
  every_also after also (a ∷ l) e = let p = every_uncons a l e in rw (also a p.0) (every_also after also l p.1)

  pub none_beside : (other : A → Bool) → ((a : A) → test a ≡ true → other a ≡ false) → (l : List A) → every test l ≡ true
      → some_of other l ≡ false
  unfolding some_of
  none_beside other never [] e = refl
  none_beside other never (a ∷ l) e = let p = every_uncons a l e in rw (never a p.0) (none_beside other never l p.1)

  pub every_fails : (l : List A) (a : A) (m : List A) → test a ≡ false → every test (l ++ (a ∷ m)) ≡ false
  unfolding every
  every_fails [] a m e = rw e
  every_fails (c ∷ l) a m e = rw (every_fails l a m e) (and-false (test c))

  every_chosen : (b : Bool) (l m : List A) → every test l ≡ true → every test m ≡ true → every test (cond b l m) ≡ true
  every_chosen true l m e f = e
  every_chosen false l m e f = f

  pub every_taken : (count : ℕ) (l : List A) → every test l ≡ true → every test (take count l) ≡ true
  unfolding every
  every_taken zero l e = refl
  every_taken (suc count) [] e = refl
  every_taken (suc count) (a ∷ l) e =
      let p = every_uncons a l e in
      every_cons a (take count l) p.0 (every_taken count l p.1)

  pub every_dropped : (count : ℕ) (l : List A) → every test l ≡ true → every test (drop count l) ≡ true
  unfolding every
  every_dropped zero l e = e
  every_dropped (suc count) [] e = refl
  every_dropped (suc count) (a ∷ l) e = every_dropped count l (every_uncons a l e).1

  -- What holds of two lists joined holds of each.
  pub every_parts : (front rest : List A) → every test (front ++ rest) ≡ true → (every test front ≡ true) × (every test rest ≡ true)
  every_parts front rest e = (
    rw (take-append_seam front rest) at (every_taken (length front) (front ++ rest) e),
    rw (drop-append_seam front rest) at (every_dropped (length front) (front ++ rest) e),
  )

  -- One more, where it stays.
  pub every_more : (front : List A) (a : A) (stays : Bool) → every test front ≡ true → test a ≡ true
      → every test (front ++ cond stays (a ∷ []) []) ≡ true
  unfolding every
  every_more front a stays e h =
      every_append front (cond stays (a ∷ []) []) e (every_chosen stays (a ∷ []) [] (every_cons a [] h refl) refl)

  pub every_kept : (other : A → Bool) (l : List A) → every test l ≡ true → every test (keep other l) ≡ true
  unfolding every keep
  every_kept other [] e = refl
  every_kept other (a ∷ l) e =
      let p = every_uncons a l e in
      every_append (cond (other a) (a ∷ []) []) (keep other l)
      (every_chosen (other a) (a ∷ []) [] (every_cons a [] p.0 refl) refl) (every_kept other l p.1)

  -- What a test keeps passes it.
  pub keeps_passing : (l : List A) → every test (keep test l) ≡ true
  unfolding every keep
  keeps_passing [] = refl
  keeps_passing (a ∷ l) = go (keeps_passing l) (test a) refl
    where
      go : every test (keep test l) ≡ true → (b : Bool) → test a ≡ b → every test (cond b (a ∷ []) [] ++ keep test l) ≡ true
      go rest true e = rw e rest
      go rest false e = rest

  pub every_first : (like : A → A → Bool) (kept l : List A) → every test l ≡ true → every test (firsts_after like kept l) ≡ true
  unfolding every firsts_after
  every_first like kept [] e = refl
  every_first like kept (a ∷ l) e =
      let p = every_uncons a l e in
      let b = some_of (like a) kept in
      every_append (cond b [] (a ∷ [])) (firsts_after like (kept ++ cond b [] (a ∷ [])) l)
      (every_chosen b [] (a ∷ []) refl (every_cons a [] p.0 refl)) (every_first like (kept ++ cond b [] (a ∷ [])) l p.1)

  -- Where no element fails before the end, none does.
  pub every_leading : (l : List A) → length l ≤ leading test l → every test l ≡ true
  unfolding every leading
  every_leading [] h = refl
  every_leading (a ∷ l) h = go (test a) refl (every_leading l)
    where
      go : (b : Bool) → test a ≡ b → (length l ≤ leading test l → every test l ≡ true) → every test (a ∷ l) ≡ true
      go true e on = every_cons a l e (on (omega (arith, rw e at h)))
      go false e on = absurd (omega (arith, rw e at h))

-- One of a list whose numbers are all below a bound.
pub below_at : (bound : ℕ) (l : List ℕ) (i d : ℕ) → i < length l → every (λ v. ltb v bound) l ≡ true → get_or l i d < bound
below_at bound l i d h e = ltb-true (get_or l i d) bound (every_at (λ v. ltb v bound) l i d h e)

pub every_mapped : {A B : Type 0} (test : A → Bool) (after : B → Bool) (f : A → B) → ((a : A) → test a ≡ true → after (f a) ≡ true)
    → (l : List A) → every test l ≡ true → every after (map f l) ≡ true
unfolding every
every_mapped test after f onto [] e = refl
every_mapped test after f onto (a ∷ l) e =
    let p = every_uncons test a l e in
    every_cons after (f a) (map f l) (onto a p.0) (every_mapped test after f onto l p.1)
