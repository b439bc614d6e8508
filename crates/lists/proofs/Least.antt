-- The best of a list stands in it, none is better, and it comes first among those as good; it is sought part by part. The least by a measure is the best by the test of that measure.
use mathlib.Core.Path.{◌≡◌, refl, ap, ◌∙◌}
use mathlib.Core.Bool.{Bool, true, false, cond, not, ◌&&◌, ◌||◌}
use mathlib.Core.List.Memᴰ
use mathlib.Core.List.{List, [], ◌∷◌, ◌++◌, map, map-append, Memᴰ}
use mathlib.Core.Logic.{◌⊎◌, inl, inr, ⊎_elim}
use Prim.Native.Nat.{ℕ, ◌<◌, ◌≤◌}
use native.Mathlib.Omega.{arith}
use borrow.Author.Tests.{ltb-true, ltb-false, lt-ltb, le-ltb}
use lib.Dec.{ltb}
use lib.ListN.{length}
use Rattle.lists.specs.Least.{best_after, best_of, lighter, least}
use Rattle.lists.specs.Members.{every}
use Rattle.lists.proofs.Tests.{neither}
use Rattle.lists.proofs.Every.{every_uncons}
use Rattle.lists.specs.Ordered.{Ascending}

-- The test is of an order in which some are as good as others: of two not both are better, and one that isn't better than a second, which isn't better than a third, isn't better than that.
pub record Ranks {A : Type 0} (better : A → A → Bool) : Type 0 where
  pub one_way : (a b : A) → better a b ≡ true → better b a ≡ false
  pub no_better : (a b c : A) → better a b ≡ false → better b c ≡ false → better a c ≡ false

pub record FirstBest {A : Type 0} (better : A → A → Bool) (before : A → A → Type 0) (l : List A) (result : A) : Type 0 where
  pub member : Memᴰ result l
  pub none_better : (a : A) → Memᴰ a l → better a result ≡ false
  pub first : (a : A) → Memᴰ a l → better result a ≡ false → (a ≡ result) ⊎ before result a

pub record FirstLeast {A : Type 0} (measure : A → ℕ) (before : A → A → Type 0) (l : List A) (result : A) : Type 0 where
  pub member : Memᴰ result l
  pub smallest : (a : A) → Memᴰ a l → measure result ≤ measure a
  pub first : (a : A) → Memᴰ a l → measure a ≡ measure result → (a ≡ result) ⊎ before result a

-- The other way round it is such a test too; and so is one with a second that decides where the first leaves two as good.
pub ranks_turned : {A : Type 0} (better : A → A → Bool) → Ranks better → Ranks (λ a b. better b a)
ranks_turned better ranks =
    record { one_way = λ a b e. ranks.one_way b a e; no_better = λ a b c e f. ranks.no_better c b a f e }

module _ {A : Type 0} (first tie second : A → A → Bool) (tied : (a b : A) → tie a b ≡ (not (first a b) && not (first b a)))
    (ranks : Ranks first) (then : Ranks second) where
  pub ranks_then : Ranks (λ a b. first a b || (tie a b && second a b))
  ranks_then =
      record {
        one_way =
            λ a b e.
            rw (tied b a)
            (either_way (first a b) (first b a) (second a b) (second b a) (ranks.one_way a b) (then.one_way a b) (rw (tied a b) at e));
        no_better = through;
      }
    where
      either_way : (p q s t : Bool) → (p ≡ true → q ≡ false) → (s ≡ true → t ≡ false) → (p || ((not p && not q) && s)) ≡ true
          → (q || ((not q && not p) && t)) ≡ false
      either_way true q s t f g e = rw (f refl)
      either_way false true s t f g e = let z : ◌≡◌ {A = ℕ} 0 1 = cc in absurd (omega arith)
      either_way false false s t f g e = g e

      through : (a b c : A) → (first a b || (tie a b && second a b)) ≡ false → (first b c || (tie b c && second b c)) ≡ false
          → (first a c || (tie a c && second a c)) ≡ false
      through a b c e f =
          let ab = neither (first a b) _ e in
          let bc = neither (first b c) _ f in
          rw (ranks.no_better a b c ab.0 bc.0, tied a c, ranks.no_better a b c ab.0 bc.0)
          (last (first c a) refl ab.0 bc.0 (rw (tied a b, ab.0) at ab.1) (rw (tied b c, bc.0) at bc.1))
        where
          last : (r : Bool) → first c a ≡ r → first a b ≡ false → first b c ≡ false → (not (first b a) && second a b) ≡ false
              → (not (first c b) && second b c) ≡ false → (not r && second a c) ≡ false
          last true q e f g h = refl
          last false q e f g h =
              then.no_better a b c (rw (ranks.no_better b c a f q) at g) (rw (ranks.no_better c a b q e) at h)

module _ {A : Type 0} (better : A → A → Bool) where
  -- What holds of all holds of the best.
  pub best_passes : (test : A → Bool) (best : A) (l : List A) → test best ≡ true → every test l ≡ true
      → test (best_after better best l) ≡ true
  unfolding best_after
  best_passes test best [] h e = h
  best_passes test best (a ∷ l) h e =
      let p = every_uncons test a l e in
      go (better a best) (λ b k. best_passes test b l k p.1) p.0
    where
      go : (c : Bool) → ((b : A) → test b ≡ true → test (best_after better b l) ≡ true) → test a ≡ true
          → test (best_after better (cond c a best) l) ≡ true
      go true on k = on a k
      go false on k = on best h

  -- The best of two lists joined is sought in one after the other.
  pub best_joined : (best : A) (l m : List A) → best_after better best (l ++ m) ≡ best_after better (best_after better best l) m
  unfolding best_after
  best_joined best [] m = refl
  best_joined best (a ∷ l) m = best_joined (cond (better a best) a best) l m

  -- Where none of a list is better than the best, the best stays.
  pub best_idle : {B : Type 0} (f : B → A) (best : A) (l : List B) → ((b : B) → Memᴰ b l → better (f b) best ≡ false)
      → best_after better best (map f l) ≡ best
  unfolding best_after
  best_idle f best [] none = refl
  best_idle f best (b ∷ l) none =
      ap (λ test. best_after better (cond test (f b) best) (map f l)) (none b (Memᴰ.head refl))
      ∙ best_idle f best l (λ c m. none c (Memᴰ.tail m))

  -- Two tests that agree on what is compared find the same best.
  pub best_map : {B : Type 0} (finer : B → B → Bool) (f : B → A) (Compared : B → Type 0)
      → ((a b : B) → Compared a → Compared b → better (f a) (f b) ≡ finer a b)
      → (best : B) (l : List B) → Compared best → ((b : B) → Memᴰ b l → Compared b)
      → best_after better (f best) (map f l) ≡ f (best_after finer best l)
  unfolding best_after
  best_map finer f Compared agree best [] h each = refl
  best_map {B} finer f Compared agree best (b ∷ l) h each =
      let k = each b (Memᴰ.head refl) in
      ap (λ r. best_after better (cond r (f b) (f best)) (map f l)) (agree b best k h)
      ∙ go (finer b best) (λ c p. best_map finer f Compared agree c l p (λ d m. each d (Memᴰ.tail m))) k
    where
      go : (r : Bool) → ((c : B) → Compared c → best_after better (f c) (map f l) ≡ f (best_after finer c l)) → Compared b
          → best_after better (cond r (f b) (f best)) (map f l) ≡ f (best_after finer (cond r b best) l)
      go true on k = on b k
      go false on k = on best h

  module _ (ranks : Ranks better) where
    clash : {a b : A} → better a b ≡ true → better a b ≡ false → ⊥
    clash e f = let z : ◌≡◌ {A = ℕ} 0 1 = cc in omega arith

    never_worse : (best : A) (l : List A) → better best (best_after better best l) ≡ false
    unfolding best_after
    never_worse best [] = go (better best best) refl
      where
        go : (c : Bool) → better best best ≡ c → better best best ≡ false
        go true e = ranks.one_way best best e
        go false e = e
    never_worse best (a ∷ l) = go (better a best) refl (λ b. never_worse b l)
      where
        go : (c : Bool) → better a best ≡ c → ((b : A) → better b (best_after better b l) ≡ false)
            → better best (best_after better (cond c a best) l) ≡ false
        go true e on = ranks.no_better best a _ (ranks.one_way a best e) (on a)
        go false e on = on best

    -- The first one stays where the best is as good.
    best_ties : (best : A) (l : List A) → better (best_after better best l) best ≡ false → best_after better best l ≡ best
    unfolding best_after
    best_ties best [] e = refl
    best_ties best (a ∷ l) e = go (better a best) refl e (best_ties best l)
      where
        go : (c : Bool) → better a best ≡ c → better (best_after better (cond c a best) l) best ≡ false
            → (better (best_after better best l) best ≡ false → best_after better best l ≡ best)
            → best_after better (cond c a best) l ≡ best
        go true q f on = absurd (clash q (ranks.no_better a (best_after better a l) best (never_worse a l) f))
        go false q f on = on f

    module _ (before : A → A → Type 0) (best a : A) (l : List A) (result : A) where
      -- The second is better: the first is out.
      best_leaves : better a best ≡ true → FirstBest better before (a ∷ l) result → FirstBest better before (best ∷ (a ∷ l)) result
      best_leaves h found =
          let mine = found.none_better a (Memᴰ.head refl) in
          record {
            member = Memᴰ.tail found.member;
            none_better =
                λ b m.
                ⊎_elim (λ e. rw e (ranks.no_better best a result (ranks.one_way a best h) mine)) (found.none_better b) (Memᴰ.cases_cons m);
            first =
                λ b m as_good.
                ⊎_elim (λ e. absurd (clash h (ranks.no_better a result best mine (rw e at as_good)))) (λ n. found.first b n as_good)
                (Memᴰ.cases_cons m);
          }

      widened : {b : A} → Memᴰ b (best ∷ l) → Memᴰ b (best ∷ (a ∷ l))
      widened m = ⊎_elim Memᴰ.head (λ later. Memᴰ.tail (Memᴰ.tail later)) (Memᴰ.cases_cons m)

      narrowed : {b : A} → Memᴰ b (best ∷ (a ∷ l)) → (b ≡ a) ⊎ Memᴰ b (best ∷ l)
      narrowed m =
          ⊎_elim (λ e. inr (Memᴰ.head e))
          (λ later. ⊎_elim inl (λ rest. inr (Memᴰ.tail rest)) (Memᴰ.cases_cons later))
          (Memᴰ.cases_cons m)

      -- The second isn't better: it is out, and comes after the first if they are as good.
      best_stays : better a best ≡ false → before best a → (better result best ≡ false → result ≡ best)
          → FirstBest better before (best ∷ l) result → FirstBest better before (best ∷ (a ∷ l)) result
      best_stays h next ties found =
          let mine = found.none_better best (Memᴰ.head refl) in
          record {
            member = widened found.member;
            none_better = λ b m. ⊎_elim (λ e. rw e (ranks.no_better a best result h mine)) (found.none_better b) (narrowed m);
            first =
                λ b m as_good.
                ⊎_elim (λ e. inr (rw (e, ties (ranks.no_better result a best (rw e at as_good) h)) next)) (λ n. found.first b n as_good)
                (narrowed m);
          }

    module _ (before : A → A → Type 0) where
      pub best_first : (best : A) (l : List A) → Ascending before (best ∷ l)
          → FirstBest better before (best ∷ l) (best_after better best l)
      unfolding best_after
      best_first best [] up =
          record {
            member = Memᴰ.head refl;
            none_better = λ b m. rw (Memᴰ.eq_of_singleton m) (never_worse best []);
            first = λ b m as_good. inl (Memᴰ.eq_of_singleton m);
          }
      best_first best (a ∷ l) up =
          go (better a best) refl (best_first a l up.1) (best_first best l (λ b m. up.0 b (Memᴰ.tail m), up.1.1))
        where
          go : (c : Bool) → better a best ≡ c → FirstBest better before (a ∷ l) (best_after better a l)
              → FirstBest better before (best ∷ l) (best_after better best l)
              → FirstBest better before (best ∷ (a ∷ l)) (best_after better (cond c a best) l)
          go true e second first = best_leaves before best a l _ e second
          go false e second first = best_stays before best a l _ e (up.0 a (Memᴰ.head refl)) (best_ties best l) first

      pub best_of_first : (none : A) (l : List A) → 0 < length l → Ascending before l → FirstBest better before l (best_of better none l)
      unfolding best_of
      best_of_first none [] h up = absurd (omega arith)
      best_of_first none (a ∷ l) h up = best_first a l up

module _ {A : Type 0} (measure : A → ℕ) where
  pub lighter_ranks : Ranks (lighter measure)
  unfolding lighter
  lighter_ranks =
      record {
        one_way = λ a b e. le-ltb (measure b) (measure a) (omega (arith, ltb-true (measure a) (measure b) e));
        no_better =
            λ a b c e f.
            le-ltb (measure a) (measure c) (omega (arith, ltb-false (measure a) (measure b) e, ltb-false (measure b) (measure c) f));
      }

  pub least_map_joined : {B : Type 0} (f : B → A) (best : A) (l m : List B)
      → least measure best (map f (l ++ m)) ≡ least measure (least measure best (map f l)) (map f m)
  unfolding least
  least_map_joined f best l m = rw (map-append f l m) (best_joined (lighter measure) best (map f l) (map f m))

  pub least_map : {B : Type 0} (f : B → A) (best : B) (l : List B)
      → least measure (f best) (map f l) ≡ f (least (λ b. measure (f b)) best l)
  unfolding least lighter
  least_map f best l = best_map (lighter measure) (lighter (λ b. measure (f b))) f (λ b. Unit) (λ a b h k. refl) best l tt (λ b m. tt)

  -- The least measures no more than what it started from, and no more than any of the list.
  smaller_of : (a best : A) (test : Bool) → ltb (measure a) (measure best) ≡ test
      → (measure (cond test a best) ≤ measure best) × (measure (cond test a best) ≤ measure a)
  smaller_of a best true e = let h = ltb-true (measure a) (measure best) e in (omega arith, omega arith)
  smaller_of a best false e = let h = ltb-false (measure a) (measure best) e in (omega arith, h)

  pub least_below : {B : Type 0} (f : B → A) (best : A) (l : List B) → measure (least measure best (map f l)) ≤ measure best
  unfolding least lighter best_after
  least_below f best [] = omega arith
  least_below f best (b ∷ l) =
      let test = ltb (measure (f b)) (measure best) in
      omega (arith, (smaller_of (f b) best test refl).0, least_below f (cond test (f b) best) l)

  pub least_settles : {B : Type 0} (f : B → A) (best : A) (l : List B) (b : B) → Memᴰ b l → measure (least measure best (map f l)) ≤ measure (f b)
  unfolding least lighter best_after
  least_settles f best [] b m = absurd (Memᴰ.not-nil m)
  least_settles f best (first ∷ l) b m =
      let test = ltb (measure (f first)) (measure best) in
      let next = cond test (f first) best in
      ⊎_elim (λ e. rw e (omega (arith, (smaller_of (f first) best test refl).1, least_below f next l))) (least_settles f next l b) (Memᴰ.cases_cons m)

  -- From a start that measures more than the first, the least is found.
  pub least_found : {B : Type 0} (f : B → A) (start : A) (first : B) (rest : List B) → measure (f first) < measure start
      → least measure start (map f (first ∷ rest)) ≡ f (least (λ b. measure (f b)) first rest)
  unfolding least lighter
  least_found f start first rest h =
      ap (λ r. least measure (cond r (f first) start) (map f rest)) (lt-ltb (measure (f first)) (measure start) h) ∙ least_map f first rest

  module _ (before : A → A → Type 0) where
    pub least_first : (best : A) (l : List A) → Ascending before (best ∷ l)
        → FirstLeast measure before (best ∷ l) (least measure best l)
    unfolding least lighter
    least_first best l up =
        let found = best_first (lighter measure) lighter_ranks before best l up in
        record {
          member = found.member;
          smallest = λ a m. ltb-false (measure a) _ (found.none_better a m);
          first = λ a m same. found.first a m (le-ltb _ (measure a) (omega arith));
        }
