-- One step along a list: what a loop that counts upward knows of the elements it has still to see.
use mathlib.Core.Path.{◌≡◌}
use mathlib.Core.Bool.{Bool, true, false, cond}
use mathlib.Core.List.{List, [], ◌∷◌, ◌++◌, flat_map}
use Prim.Native.Nat.{ℕ, ◌+◌, ◌-◌, ◌<◌, ◌≤◌}
use native.Mathlib.Numerals.{add-one}
use native.Mathlib.Omega.{arith}
use lib.ListN.{length, get_or, take, drop, drop_of_length-le, length-drop}
use lib.Seq.{drop-cons, take_all}
use Rattle.lists.specs.Members.{every, keep}
use Rattle.lists.specs.Counting.{same, occurrences}

pub drop_step : {A : Type 0} (s : List A) (i : ℕ) (d : A) → i < length s → drop i s ≡ get_or s i d ∷ drop (i + 1) s
drop_step s i d h = rw add-one (drop-cons s i d h)

-- A part that runs to the end is what is left.
pub part_to_end : {A : Type 0} (s : List A) (a : ℕ) → take (length s - a) (drop a s) ≡ drop a s
part_to_end s a = take_all (length s - a) (drop a s) (simp length-drop (omega arith))

module _ {A : Type 0} (test : A → Bool) (s : List A) (i : ℕ) where
  pub every_passes : (d : A) → i < length s → test (get_or s i d) ≡ true → every test (drop i s) ≡ every test (drop (i + 1) s)
  unfolding every
  every_passes d h e = rw (drop_step s i d h) (rw e)

  pub every_stops : (d : A) → i < length s → test (get_or s i d) ≡ false → every test (drop i s) ≡ false
  unfolding every
  every_stops d h e = rw (drop_step s i d h) (rw e)

  pub every_ends : length s ≤ i → every test (drop i s) ≡ true
  unfolding every
  every_ends h = rw (drop_of_length-le s h)

  pub keep_step : (d : A) → i < length s → keep test (drop i s) ≡ cond (test (get_or s i d)) (get_or s i d ∷ []) [] ++ keep test (drop (i + 1) s)
  unfolding keep
  keep_step d h = rw (drop_step s i d h)

  pub keep_end : length s ≤ i → keep test (drop i s) ≡ []
  unfolding keep
  keep_end h = rw (drop_of_length-le s h)

module _ {A B : Type 0} (f : A → List B) (s : List A) (i : ℕ) where
  pub joined_step : (d : A) → i < length s → flat_map f (drop i s) ≡ f (get_or s i d) ++ flat_map f (drop (i + 1) s)
  unfolding flat_map
  joined_step d h = rw (drop_step s i d h)

  pub joined_end : length s ≤ i → flat_map f (drop i s) ≡ []
  unfolding flat_map
  joined_end h = rw (drop_of_length-le s h)

pub occurrences_step : (x : ℕ) (s : List ℕ) (i : ℕ) → i < length s → occurrences x (drop i s) ≡ same (get_or s i 0) x + occurrences x (drop (i + 1) s)
unfolding occurrences
occurrences_step x s i h = rw (drop_step s i 0 h)

pub occurrences_end : (x : ℕ) (s : List ℕ) (i : ℕ) → length s ≤ i → occurrences x (drop i s) ≡ 0
unfolding occurrences
occurrences_end x s i h = rw (drop_of_length-le s h)
