-- Elements that pass a test: put behind a list one at a time, of two lists joined, of a list mapped, and by two tests.
use mathlib.Core.Path.{◌≡◌, refl, ap, sym}
use mathlib.Core.Bool.{Bool, true, false, cond, ◌&&◌}
use mathlib.Core.List.{List, [], ◌∷◌, ◌++◌, map, append-nil, append_assoc}
use Rattle.lists.specs.Members.{keep}

module _ {A : Type 0} (test : A → Bool) where
  abbrev one : A → List A
  one a = cond (test a) (a ∷ []) []

  pub three_kept : (s : List A) (a b c : A) → ((s ++ one a) ++ one b) ++ one c ≡ s ++ keep test (a ∷ (b ∷ (c ∷ [])))
  unfolding keep
  three_kept s a b c =
      rw (append-nil (one c), append_assoc (s ++ one a) (one b) (one c), append_assoc s (one a) (one b ++ one c))

  pub keep_joined : (l m : List A) → keep test (l ++ m) ≡ keep test l ++ keep test m
  unfolding keep
  keep_joined [] m = refl
  keep_joined (a ∷ l) m = rw (keep_joined l m) (sym (append_assoc (one a) (keep test l) (keep test m)))

  pub keep_none : ((a : A) → test a ≡ false) → (l : List A) → keep test l ≡ []
  unfolding keep
  keep_none none [] = refl
  keep_none none (a ∷ l) = rw (none a) (keep_none none l)

-- To keep before or after mapping is the same, where the tests are.
pub keep_map : {A B : Type 0} (f : A → B) (test : A → Bool) (other : B → Bool) → ((a : A) → test a ≡ other (f a)) → (l : List A)
    → map f (keep test l) ≡ keep other (map f l)
unfolding keep
keep_map f test other same [] = refl
keep_map f test other same (a ∷ l) = rw (same a) (go (other (f a)) (keep_map f test other same l))
  where
    go : (b : Bool) → map f (keep test l) ≡ keep other (map f l)
        → map f (cond b (a ∷ []) [] ++ keep test l) ≡ cond b (f a ∷ []) [] ++ keep other (map f l)
    go true e = ap (λ m. f a ∷ m) e
    go false e = e

-- To keep by two tests, one after the other, is to keep by both.
pub keep_twice : {A : Type 0} (first second third : A → Bool) → ((a : A) → third a ≡ (first a && second a)) → (l : List A)
    → keep third l ≡ keep second (keep first l)
unfolding keep
keep_twice first second third each [] = refl
keep_twice first second third each (a ∷ l) = rw (each a) (go (first a) (second a) refl (keep_twice first second third each l))
  where
    go : (p q : Bool) → second a ≡ q → keep third l ≡ keep second (keep first l)
        → cond (p && q) (a ∷ []) [] ++ keep third l ≡ keep second (cond p (a ∷ []) [] ++ keep first l)
    go true true e on = rw e (ap (◌∷◌ a) on)
    go true false e on = rw e on
    go false q e on = on
