-- The firsts of equals where being like is being the same: no two of them are the same, each element is one of them, so what they weigh follows from which elements there are.
use mathlib.Core.Path.{◌≡◌, refl, ◌∙◌, sym, ap}
use mathlib.Core.Bool.{Bool, true, false, true≢false}
use mathlib.Core.List.Memᴰ
use mathlib.Core.List.{List, [], ◌∷◌, ◌++◌, Memᴰ}
use mathlib.Core.Logic.{◌⊎◌, inl, inr, ⊎_elim}
use Prim.Native.Nat.{ℕ, ◌+◌, ◌≤◌}
use native.Mathlib.Omega.{arith}
use Rattle.lists.specs.Counting.{sum}
use Rattle.lists.specs.Members.{some_of, firsts_after, firsts}
use Rattle.lists.specs.Ordered.{Ascending}
use Rattle.lists.proofs.Tests.{either, neither}
use Rattle.lists.proofs.Firsts.{adds_nothing, adds_itself}
use Rattle.lists.proofs.Narrowing.{of_first}
use Rattle.lists.proofs.Sums.{sum_of}

-- The two are not the same.
abbrev pub Apart : {A : Type 0} → A → A → Type 0
Apart a b = a ≡ b → ⊥

module _ {A : Type 0} (weight : A → ℕ) where
  -- A list without one of its elements: what it weighs, and what is left in it.
  record Without (a : A) (m : List A) : Type 0 where
    rest : List A
    weighs : sum_of weight m ≡ weight a + sum_of weight rest
    left : (b : A) → Memᴰ b m → Apart b a → Memᴰ b rest

  without : (a : A) (m : List A) → Memᴰ a m → Without a m
  unfolding sum
  without a [] m = elim m [ ]
  without a (c ∷ m) (Memᴰ.head e) = record {
    rest = m;
    weighs = rw e;
    left = λ b n apart. ⊎_elim (λ f. absurd (apart (f ∙ sym e))) (λ later. later) (Memᴰ.cases_cons n);
  }
  without a (c ∷ m) (Memᴰ.tail n) =
      let less = without a m n in
      record {
        rest = c ∷ less.rest;
        weighs = omega (arith, less.weighs);
        left = λ b k apart. ⊎_elim Memᴰ.head (λ later. Memᴰ.tail (less.left b later apart)) (Memᴰ.cases_cons k);
      }

  -- A list of which no two elements are the same weighs no more than one that has them all.
  pub sum_within : (l m : List A) → Ascending Apart l → ((a : A) → Memᴰ a l → Memᴰ a m) → sum_of weight l ≤ sum_of weight m
  unfolding sum
  sum_within [] m apart all = omega arith
  sum_within (a ∷ l) m apart all =
      let less = without a m (all a (Memᴰ.head refl)) in
      let on = sum_within l less.rest apart.1
      (λ b n. less.left b (all b (Memᴰ.tail n)) (λ e. apart.0 b n (sym e))) in
      omega (arith, less.weighs)

module _ {A : Type 0} (like : A → A → Bool) (itself : (a : A) → like a a ≡ true) (the_same : (a b : A) → like a b ≡ true → a ≡ b) where
  some_same : (a : A) (l : List A) → some_of (like a) l ≡ true → Memᴰ a l
  unfolding some_of
  some_same a [] e = absurd (true≢false (sym e))
  some_same a (b ∷ l) e =
      ⊎_elim (λ here. Memᴰ.head (the_same a b here)) (λ there. Memᴰ.tail (some_same a l there)) (either (like a b) (some_of (like a) l) e)

  none_same : (a : A) (l : List A) → some_of (like a) l ≡ false → Memᴰ a l → ⊥
  unfolding some_of
  none_same a [] e m = elim m [ ]
  none_same a (b ∷ l) e (Memᴰ.head q) =
      true≢false (sym (itself a) ∙ ap (like a) q ∙ (neither (like a b) (some_of (like a) l) e).0)
  none_same a (b ∷ l) e (Memᴰ.tail m) = none_same a l (neither (like a b) (some_of (like a) l) e).1 m

  -- A first is none of those kept, and what is none of those kept is a first.
  new_first : (kept l : List A) (a : A) → Memᴰ a (firsts_after like kept l) → Memᴰ a kept → ⊥
  unfolding firsts_after
  new_first kept [] a m k = Memᴰ.not-nil m
  new_first kept (b ∷ l) a m k = go (some_of (like b) kept) refl (λ more. new_first more l a)
    where
      go : (r : Bool) → some_of (like b) kept ≡ r
          → ((more : List A) → Memᴰ a (firsts_after like more l) → Memᴰ a more → ⊥) → ⊥
      go true e on = on kept (rw (adds_nothing like kept b l e) at m) k
      go false e on =
          ⊎_elim
          (λ q. none_same b kept e (rw q at k))
          (λ later. on (kept ++ (b ∷ [])) later (Memᴰ.append_left (b ∷ []) k))
          (Memᴰ.cases_cons (rw (adds_itself like kept b l e) at m))

  each_first : (kept l : List A) (a : A) → Memᴰ a l → (Memᴰ a kept → ⊥) → Memᴰ a (firsts_after like kept l)
  each_first kept [] a m new = absurd (Memᴰ.not-nil m)
  each_first kept (b ∷ l) a m new =
      go (some_of (like b) kept) refl (like a b) refl (Memᴰ.cases_cons m) (λ more. each_first more l a)
    where
      go : (r : Bool) → some_of (like b) kept ≡ r → (s : Bool) → like a b ≡ s → (a ≡ b) ⊎ Memᴰ a l
          → ((more : List A) → Memᴰ a l → (Memᴰ a more → ⊥) → Memᴰ a (firsts_after like more l))
          → Memᴰ a (firsts_after like kept (b ∷ l))
      go true e s f (inl q) on = absurd (new (rw q (some_same b kept e)))
      go true e s f (inr later) on = rw (adds_nothing like kept b l e) (on kept later new)
      go false e true f where_it_is on = rw (adds_itself like kept b l e) (Memᴰ.head (the_same a b f))
      go false e false f (inl q) on = rw (adds_itself like kept b l e) (Memᴰ.head q)
      go false e false f (inr later) on =
          rw (adds_itself like kept b l e)
          (Memᴰ.tail
          (on (kept ++ (b ∷ [])) later
          (λ k. ⊎_elim new (λ q. true≢false (sym (itself a) ∙ ap (like a) (Memᴰ.eq_of_singleton q) ∙ f)) (Memᴰ.append_cases kept k))))

  firsts_apart : (kept l : List A) → Ascending Apart (firsts_after like kept l)
  unfolding firsts_after
  firsts_apart kept [] = tt
  firsts_apart kept (b ∷ l) = go (some_of (like b) kept) refl (λ more. firsts_apart more l)
    where
      go : (r : Bool) → some_of (like b) kept ≡ r → ((more : List A) → Ascending Apart (firsts_after like more l))
          → Ascending Apart (firsts_after like kept (b ∷ l))
      go true e on = rw (adds_nothing like kept b l e) (on kept)
      go false e on =
          rw (adds_itself like kept b l e) (
            λ a m q. new_first (kept ++ (b ∷ [])) l a m (Memᴰ.append_right kept (Memᴰ.head (sym q))),
            on (kept ++ (b ∷ [])),
          )

  -- Where no two elements are the same, and none is kept, all are firsts.
  firsts_are_all : (kept l : List A) → Ascending Apart l → ((a : A) → Memᴰ a l → Memᴰ a kept → ⊥) → firsts_after like kept l ≡ l
  unfolding firsts_after
  firsts_are_all kept [] apart new = refl
  firsts_are_all kept (b ∷ l) apart new = go (some_of (like b) kept) refl
      (firsts_are_all (kept ++ (b ∷ [])) l apart.1
      (λ a m k. ⊎_elim (new a (Memᴰ.tail m)) (λ q. apart.0 a m (sym (Memᴰ.eq_of_singleton q))) (Memᴰ.append_cases kept k)))
    where
      go : (r : Bool) → some_of (like b) kept ≡ r → firsts_after like (kept ++ (b ∷ [])) l ≡ l → firsts_after like kept (b ∷ l) ≡ b ∷ l
      go true e on = absurd (new b (Memᴰ.head refl) (some_same b kept e))
      go false e on = adds_itself like kept b l e ∙ ap (◌∷◌ b) on

  pub firsts_all : (l : List A) → Ascending Apart l → firsts like l ≡ l
  unfolding firsts
  firsts_all l apart = firsts_are_all [] l apart (λ a m none. Memᴰ.not-nil none)

  module _ (weight : A → ℕ) where
    -- The firsts weigh no more than all.
    pub firsts_at_most : (l : List A) → sum_of weight (firsts like l) ≤ sum_of weight l
    unfolding firsts
    firsts_at_most l = sum_within weight (firsts_after like [] l) l (firsts_apart [] l) (λ a m. of_first like [] l m)

    firsts_within : (l m : List A) → ((a : A) → Memᴰ a l → Memᴰ a m) → sum_of weight (firsts like l) ≤ sum_of weight (firsts like m)
    unfolding firsts
    firsts_within l m all =
        sum_within weight (firsts_after like [] l) (firsts_after like [] m) (firsts_apart [] l)
        (λ a n. each_first [] m a (all a (of_first like [] l n)) (λ none. Memᴰ.not-nil none))

    -- Two lists of the same elements, in whatever order and however often, have firsts of one weight.
    pub firsts_weigh : (l m : List A) → ((a : A) → Memᴰ a l → Memᴰ a m) → ((a : A) → Memᴰ a m → Memᴰ a l)
        → sum_of weight (firsts like l) ≡ sum_of weight (firsts like m)
    firsts_weigh l m there back = omega (arith, firsts_within l m there, firsts_within m l back)

    -- One more element of no weight adds nothing.
    pub firsts_weightless : (a : A) → weight a ≡ 0 → (l : List A) → sum_of weight (firsts like (a ∷ l)) ≡ sum_of weight (firsts like l)
    unfolding firsts sum
    firsts_weightless a none l =
        let more : sum_of weight (firsts_after like [] (a ∷ l)) ≤ sum_of weight (a ∷ firsts_after like [] l) =
        sum_within weight (firsts_after like [] (a ∷ l)) (a ∷ firsts_after like [] l) (firsts_apart [] (a ∷ l))
        (λ b m. ⊎_elim Memᴰ.head (λ later. Memᴰ.tail (each_first [] l b later (λ no. Memᴰ.not-nil no))) (Memᴰ.cases_cons (of_first like [] (a ∷ l) m))) in
        omega (arith, none, more, firsts_within l (a ∷ l) (λ b m. Memᴰ.tail m))
