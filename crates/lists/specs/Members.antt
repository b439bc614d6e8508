-- Tests over a list: all of it, those that pass, whether one is there, and the first of equals.
use Rattle.std.specs.Prelude.{Bool, true, false, cond, ◌&&◌, ◌||◌, List, [], ◌∷◌, ◌++◌, ℕ, suc, eqb}

-- The test holds of every element.
unfoldable pub every : {A : Type 0} → (A → Bool) → List A → Bool
every test [] = true
every test (a ∷ l) = test a && every test l

-- The elements of which the test holds, in their order.
unfoldable pub keep : {A : Type 0} → (A → Bool) → List A → List A
keep test [] = []
keep test (a ∷ l) = cond (test a) (a ∷ []) [] ++ keep test l

-- How many elements stand before the first of which the test doesn't hold.
unfoldable pub leading : {A : Type 0} → (A → Bool) → List A → ℕ
leading test [] = 0
leading test (a ∷ l) = cond (test a) (suc (leading test l)) 0

-- The test holds of some element.
unfoldable pub some_of : {A : Type 0} → (A → Bool) → List A → Bool
some_of test [] = false
some_of test (a ∷ l) = test a || some_of test l

-- The two lists of numbers are the same.
unfoldable pub alike : List ℕ → List ℕ → Bool
alike [] [] = true
alike [] (b ∷ m) = false
alike (a ∷ l) [] = false
alike (a ∷ l) (b ∷ m) = eqb a b && alike l m

-- The elements that are like none before them, nor like any of those already kept: the first of equals.
unfoldable pub firsts_after : {A : Type 0} → (A → A → Bool) → List A → List A → List A
firsts_after like kept [] = []
firsts_after like kept (a ∷ l) =
    let new = cond (some_of (like a) kept) [] (a ∷ []) in
    new ++ firsts_after like (kept ++ new) l

-- Each element that is like none before it.
unfoldable pub firsts : {A : Type 0} → (A → A → Bool) → List A → List A
firsts like l = firsts_after like [] l
