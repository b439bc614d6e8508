-- The first of equals: what is like none stands apart from each, and a loop finds the firsts step by step.
use mathlib.Core.Path.{◌≡◌, refl}
use mathlib.Core.Bool.{Bool, true, false, cond, not}
use mathlib.Core.List.{List, [], ◌∷◌, ◌++◌, append-nil, append_assoc}
use Prim.Native.Nat.{ℕ, zero, suc, ◌+◌, ◌<◌, ◌≤◌}
use native.Mathlib.Omega.{arith}
use lib.ListN.{length, get_or, drop, drop_of_length-le}
use Rattle.lists.specs.Members.{some_of, firsts_after}
use Rattle.lists.proofs.Tests.{neither}
use Rattle.lists.proofs.Steps.{drop_step}

module _ {A : Type 0} where
  pub none_at : (test : A → Bool) (l : List A) (i : ℕ) (d : A) → i < length l → some_of test l ≡ false → test (get_or l i d) ≡ false
  unfolding some_of
  none_at test [] i d h e = absurd (omega arith)
  none_at test (a ∷ l) zero d h e = (neither (test a) (some_of test l) e).0
  none_at test (a ∷ l) (suc i) d h e = none_at test l i d (omega arith) (neither (test a) (some_of test l) e).1

module _ {A : Type 0} (like : A → A → Bool) where
  -- An element that is like one kept adds nothing; any other is the next of the firsts.
  pub adds_nothing : (kept : List A) (a : A) (l : List A) → some_of (like a) kept ≡ true
      → firsts_after like kept (a ∷ l) ≡ firsts_after like kept l
  unfolding firsts_after
  adds_nothing kept a l e = rw (e, append-nil kept)

  pub adds_itself : (kept : List A) (a : A) (l : List A) → some_of (like a) kept ≡ false
      → firsts_after like kept (a ∷ l) ≡ a ∷ firsts_after like (kept ++ (a ∷ [])) l
  unfolding firsts_after
  adds_itself kept a l e = rw e

  -- What was found, with the next where it is new, and the firsts of what is left are all.
  module _ (s : List A) (i : ℕ) where
    pub firsts_next : (d : A) (kept more all : List A) → i < length s
        → more ≡ kept ++ cond (not (some_of (like (get_or s i d)) kept)) (get_or s i d ∷ []) [] → kept ++ firsts_after like kept (drop i s) ≡ all
        → more ++ firsts_after like more (drop (i + 1) s) ≡ all
    firsts_next d kept more all h e g =
        go (some_of (like (get_or s i d)) kept) refl e (rw (drop_step s i d h) at g)
      where
        go : (b : Bool) → some_of (like (get_or s i d)) kept ≡ b → more ≡ kept ++ cond (not b) (get_or s i d ∷ []) []
            → kept ++ firsts_after like kept (get_or s i d ∷ drop (i + 1) s) ≡ all → more ++ firsts_after like more (drop (i + 1) s) ≡ all
        go true q e g = rw (e, append-nil kept) (rw (adds_nothing kept (get_or s i d) (drop (i + 1) s) q) at g)
        go false q e g =
            rw (e, append_assoc kept (get_or s i d ∷ []) (firsts_after like (kept ++ (get_or s i d ∷ [])) (drop (i + 1) s)))
            (rw (adds_itself kept (get_or s i d) (drop (i + 1) s) q) at g)

    pub firsts_end : (kept : List A) → length s ≤ i → firsts_after like kept (drop i s) ≡ []
    unfolding firsts_after
    firsts_end kept h = rw (drop_of_length-le s h)
