-- A row walked index by index, equal ones cancelling: what is left at each index is what survives of the indices passed.
use mathlib.Core.Path.{◌≡◌, refl, ◌∙◌, sym, ap}
use mathlib.Core.Bool.{Bool, true, false, cond, not}
use mathlib.Core.List.{List, [], ◌∷◌, ◌++◌, append-nil}
use Prim.Native.Nat.{ℕ, suc, ◌+◌, ◌-◌, ◌%◌, ◌<◌, ◌≤◌}
use native.Mathlib.Numerals.{add-one}
use native.Mathlib.Nat.{zero-add, add_comm}
use native.Mathlib.Omega.{arith}
use borrow.Author.Tests.{eqb-true, eqb-false, eq-eqb, ne_eqb, lt-ltb, le-leb, leb-true}
use lib.Dec.{eqb, ltb, leb}
use lib.ListN.{length, get_or, take, drop, set, replicate, length-append, length-drop, length-set}
use lib.Seq.{take-suc, length-take-le, take_all, take-take, take_at, get_or_at, get_or-take, get_or-drop, get_or-set_other, drop-set-add}
use Rattle.lists.specs.Counting.{same, occurrences}
use Rattle.lists.specs.Members.{every, keep}
use Rattle.lists.specs.Ranges.{listed, ascends}
use Rattle.lists.proofs.Ascending.{ascends_up_to}
use Rattle.lists.proofs.Every.{every_cons, every_uncons, every_append, every_kept, below_at}
use Rattle.lists.proofs.Kept.{keep_joined}
use Rattle.lists.proofs.Listed.{listed_joined}
use Rattle.lists.proofs.Ranges.{every_from, keep_within, keep_none_within}
use Rattle.lists.proofs.Sums.{same_one, same_none, occurrences_append}
use Rattle.lists.proofs.Writes.{written_next}
use Rattle.terms.specs.Letters.{odd}
use Rattle.terms.specs.Rows.{term}
use Rattle.tree_weight.specs.Operators.{surviving}
use Rattle.tree_weight.specs.code.Promises.{IndexPut, SurvivingRow}

-- No number above all of them occurs.
occurs_above : (v i : ℕ) (l : List ℕ) → every (λ u. leb u v) l ≡ true → v < i → occurrences i l ≡ 0
unfolding occurrences
occurs_above v i [] below h = refl
occurs_above v i (u ∷ l) below h =
    let p = every_uncons (λ n. leb n v) u l below in
    let low = leb-true u v p.0 in
    omega (arith, same_none u i (λ e. omega arith), occurs_above v i l p.1 h)

abbrev last : Bool → ℕ → List ℕ
last there v = cond there (v ∷ []) []

-- What survives below an index that none is above, and that index where it does.
module _ (bound v : ℕ) (l : List ℕ) (inside : v < bound) (up_to_lem : every (λ u. leb u v) l ≡ true) where
  abbrev test : ℕ → Bool
  test index = odd (occurrences index l)

  lower : List ℕ
  lower = keep test (listed (λ index. index) 0 v)

  lower_below : every (λ index. ltb index v) lower ≡ true
  unfolding lower
  lower_below =
      every_kept (λ index. ltb index v) test (listed (λ index. index) 0 v)
      (every_from (λ index. ltb index v) 0 v (λ u low high. lt-ltb u v (omega arith)))

  survived : surviving bound l ≡ lower ++ last (test v) v
  unfolding surviving lower keep listed
  survived =
      let size : bound ≡ v + suc (bound - v - 1) = omega arith in
      let start : 0 + v ≡ v = zero-add v in
      ap (λ n. keep test (listed (λ index. index) 0 n)) size
      ∙ ap (keep test) (listed_joined (λ index. index) 0 v (suc (bound - v - 1)))
      ∙ keep_joined test (listed (λ index. index) 0 v) (listed (λ index. index) (0 + v) (suc (bound - v - 1)))
      ∙ rw start
      (ap (λ m. lower ++ (last (test v) v ++ m))
      (keep_none_within test (suc v) (bound - v - 1) (λ u low high. rw (occurs_above v u l up_to_lem (omega arith))))
      ∙ ap (λ m. lower ++ m) (append-nil (last (test v) v)))

-- The same once that index is put behind them: it survives where it did not before.
module _ (bound v : ℕ) (l : List ℕ) (inside : v < bound) (up_to_lem : every (λ u. leb u v) l ≡ true) where
  occurs_more : (u : ℕ) → occurrences u (l ++ (v ∷ [])) ≡ occurrences u l + same v u
  unfolding occurrences
  occurs_more u = omega (arith, occurrences_append u l (v ∷ []))

  up_to_more : every (λ u. leb u v) (l ++ (v ∷ [])) ≡ true
  unfolding every
  up_to_more = every_append (λ u. leb u v) l (v ∷ []) up_to_lem (every_cons (λ u. leb u v) v [] (le-leb v v (omega arith)) refl)

  lower_stays : lower bound v (l ++ (v ∷ [])) inside up_to_more ≡ lower bound v l inside up_to_lem
  unfolding lower
  lower_stays =
      keep_within (λ u. odd (occurrences u (l ++ (v ∷ [])))) (λ u. odd (occurrences u l)) 0 v
      (λ u low high.
      let one_less : occurrences u (l ++ (v ∷ [])) ≡ occurrences u l = omega (arith, occurs_more u, same_none v u (λ e. omega arith)) in
      ap (λ n. eqb (n % 2) 1) one_less)

  survived_more : surviving bound (l ++ (v ∷ [])) ≡ lower bound v l inside up_to_lem ++ last (not (odd (occurrences v l))) v
  survived_more =
      let one_more : occurrences v (l ++ (v ∷ [])) ≡ occurrences v l + 1 = omega (arith, occurs_more v, same_one v v refl) in
      survived bound v (l ++ (v ∷ [])) inside up_to_more
      ∙ ap (λ m. m ++ last (odd (occurrences v (l ++ (v ∷ [])))) v) lower_stays
      ∙ ap (λ b. lower bound v l inside up_to_lem ++ last b v) (ap (λ n. eqb (n % 2) 1) one_more ∙ turned (occurrences v l) (odd (occurrences v l)) refl)
    where
      turned : (n : ℕ) (b : Bool) → odd n ≡ b → odd (n + 1) ≡ not b
      turned n true e = let was = eqb-true (n % 2) 1 e in ne_eqb ((n + 1) % 2) 1 (λ f. absurd (omega arith))
      turned n false e = let was = eqb-false (n % 2) 1 e in eq-eqb ((n + 1) % 2) 1 (omega arith)

-- The last of so many numbers, where they are these and one more.
last_of : (rest front : List ℕ) (count v : ℕ) → count ≤ length rest → take count rest ≡ front ++ (v ∷ [])
    → (0 < count) × (get_or rest (count - 1) 0 ≡ v) × (take (count - 1) rest ≡ front)
last_of rest front count v fits e =
    let size : count ≡ length front + 1 = sym (length-take-le count rest fits) ∙ ap length e ∙ length-append front (v ∷ []) in (
      omega arith,
      sym (get_or-take count rest (count - 1) 0 (omega arith)) ∙ ap (λ l. get_or l (count - 1) 0) e ∙ get_or_at front v [] 0 (count - 1) (omega arith),
      sym (take-take (count - 1) count rest (omega arith)) ∙ ap (take (count - 1)) e ∙ take_at front (v ∷ []) (count - 1) (omega arith),
    )

-- The walk: the indices left so far, of so many passed.
pub record Walking (given row : List ℕ) (count at : ℕ) : Type 0 where
  pub inside : at ≤ length given
  pub fewer : count ≤ at
  pub whole : length row ≡ 9
  pub no_count : get_or row 8 0 ≡ 0
  pub left : (bound : ℕ) → every (λ index. ltb index bound) given ≡ true → take count (drop 1 row) ≡ surviving bound (take at given)

pub walk_starts : (given row : List ℕ) → length row ≡ 9 → get_or row 8 0 ≡ 0 → Walking given row 0 0
unfolding surviving occurrences
walk_starts given row whole no_count = record {
  inside = omega arith;
  fewer = omega arith;
  whole = whole;
  no_count = no_count;
  left = λ bound below. sym (keep_none_within (λ index. odd (occurrences index [])) 0 bound (λ v low high. refl));
}

module _ (given row : List ℕ) (count at : ℕ) (few : length given < 8) (up : ascends given ≡ true)
    (walk : Walking given row count at) (more : at < length given) where
  abbrev here : ℕ
  here = get_or given at 0

  -- What is left is what survives below this index, and this index where it survives so far.
  module _ (bound : ℕ) (below : every (λ index. ltb index bound) given ≡ true) where
    in_bound : here < bound
    in_bound = below_at bound given at 0 more below

    abbrev smaller : List ℕ
    smaller = lower bound here (take at given) in_bound (ascends_up_to given up at more)

    abbrev survives : Bool
    survives = odd (occurrences here (take at given))

    passed : take (at + 1) given ≡ take at given ++ (here ∷ [])
    passed = rw add-one (take-suc given at 0 more)

    left_now : take count (drop 1 row) ≡ smaller ++ last survives here
    left_now = walk.left bound below ∙ survived bound here (take at given) in_bound (ascends_up_to given up at more)

    left_then : surviving bound (take (at + 1) given) ≡ smaller ++ last (not survives) here
    left_then = ap (surviving bound) passed ∙ survived_more bound here (take at given) in_bound (ascends_up_to given up at more)

    fits : count ≤ length (drop 1 row)
    fits = rw (length-drop 1 row) (omega (arith, walk.whole, walk.fewer))

    -- It survives so far exactly where it is the last of those left.
    last_survives : 0 < count → get_or row count 0 ≡ here → survives ≡ true
    last_survives some e = go survives refl
      where
        go : (b : Bool) → survives ≡ b → survives ≡ true
        go true f = f
        go false f =
            let now : take count (drop 1 row) ≡ smaller = left_now ∙ ap (λ b. smaller ++ last b here) f ∙ append-nil smaller in
            let long : length smaller ≡ count = sym (ap length now) ∙ length-take-le count (drop 1 row) fits in
            let low = below_at here smaller (count - 1) 0 (omega arith) (lower_below bound here (take at given) in_bound (ascends_up_to given up at more)) in
            let same : get_or smaller (count - 1) 0 ≡ get_or row count 0 =
            ap (λ l. get_or l (count - 1) 0) (sym now) ∙ get_or-take count (drop 1 row) (count - 1) 0 (omega arith)
            ∙ get_or-drop 1 row (count - 1) 0 ∙ ap (λ n. get_or row n 0) (omega arith) in
            absurd (omega arith)

    first_of_row : (k : ℕ) → get_or (drop 1 row) k 0 ≡ get_or row (k + 1) 0
    first_of_row k = get_or-drop 1 row k 0 ∙ ap (λ n. get_or row n 0) (add_comm 1 k)

    -- Where it is the last of those left, it is gone with it; elsewhere it is put behind them.
    cancelled : 0 < count → get_or row count 0 ≡ here → take (count - 1) (drop 1 row) ≡ surviving bound (take (at + 1) given)
    cancelled some e =
        let there = last_survives some e in
        let now : take count (drop 1 row) ≡ smaller ++ (here ∷ []) = left_now ∙ ap (λ b. smaller ++ last b here) there in
        (last_of (drop 1 row) smaller count here fits now).2
        ∙ sym (append-nil smaller) ∙ sym (ap (λ b. smaller ++ last (not b) here) there) ∙ sym left_then

    stayed : (0 < count → get_or row count 0 ≡ here → ⊥)
        → take (count + 1) (drop 1 (set row (count + 1) here)) ≡ surviving bound (take (at + 1) given)
    stayed other = go survives refl
      where
        go : (b : Bool) → survives ≡ b → take (count + 1) (drop 1 (set row (count + 1) here)) ≡ surviving bound (take (at + 1) given)
        go true f =
            let ends = last_of (drop 1 row) smaller count here fits (left_now ∙ ap (λ b. smaller ++ last b here) f) in
            let back : count - 1 + 1 ≡ count = omega (arith, ends.0) in
            absurd (other ends.0 (ap (λ n. get_or row n 0) (sym back) ∙ sym (first_of_row (count - 1)) ∙ ends.1))
        go false f =
            let now : take count (drop 1 row) ≡ smaller = left_now ∙ ap (λ b. smaller ++ last b here) f ∙ append-nil smaller in
            ap (λ n. take (count + 1) (drop 1 (set row n here))) (add_comm count 1)
            ∙ ap (take (count + 1)) (drop-set-add 1 row count here)
            ∙ written_next (drop 1 row) count here (omega (arith, length-drop 1 row, walk.whole, walk.fewer))
            ∙ ap (λ l. l ++ (here ∷ [])) now
            ∙ sym (ap (λ b. smaller ++ last (not b) here) f) ∙ sym left_then

  pub walk_on : (after : List ℕ) (now_count : ℕ) → IndexPut row count here after now_count → Walking given after now_count (at + 1)
  walk_on after now_count put = go (eqb count 0) refl (eqb (get_or row count 0) here) refl
    where
      put_behind : (0 < count → get_or row count 0 ≡ here → ⊥) → Walking given after now_count (at + 1)
      put_behind other =
          let p = put.stays other in
          rw (p.0, p.1) (record {
            inside = omega (arith, more);
            fewer = omega (arith, walk.fewer);
            whole = length-set row (count + 1) here ∙ walk.whole;
            no_count = get_or-set_other row (count + 1) 8 here 0 (λ e. absurd (omega (arith, walk.fewer))) ∙ walk.no_count;
            left = λ bound below. stayed bound below other;
          })

      go : (z : Bool) → eqb count 0 ≡ z → (b : Bool) → eqb (get_or row count 0) here ≡ b → Walking given after now_count (at + 1)
      go true e b f = let none = eqb-true count 0 e in put_behind (λ some same. omega arith)
      go false e false f = put_behind (λ some same. eqb-false (get_or row count 0) here f same)
      go false e true f =
          let some : 0 < count = (let apart = eqb-false count 0 e in omega arith) in
          let last_one = eqb-true (get_or row count 0) here f in
          let p = put.cancels some last_one in
          rw (p.0, p.1) (record {
            inside = omega (arith, more);
            fewer = omega (arith, walk.fewer);
            whole = walk.whole;
            no_count = walk.no_count;
            left = λ bound below. cancelled bound below some last_one;
          })

-- At the end what is left is the row of what survives, its length before it.
pub walk_ends : (given row : List ℕ) (count at : ℕ) → length given < 8 → Walking given row count at → length given ≤ at → 0 < count
    → SurvivingRow given (set row 0 count)
unfolding term
walk_ends given [] count at few walk over some = absurd (omega (arith, walk.whole))
walk_ends given (first ∷ rest) count at few walk over some = record {
  whole = walk.whole;
  within = omega (arith, walk.fewer, walk.inside);
  zeros = λ none. absurd (omega (arith, some, none));
  no_count = walk.no_count;
  new_term = λ bound below. walk.left bound below ∙ ap (surviving bound) (take_all at given over);
}

-- Where nothing is left, a row of zeros is that.
pub walk_ends_empty : (given row : List ℕ) (at : ℕ) → Walking given row 0 at → length given ≤ at → SurvivingRow given (replicate 9 0)
unfolding term
walk_ends_empty given row at walk over = record {
  whole = refl;
  within = omega arith;
  zeros = λ none. refl;
  no_count = refl;
  new_term = λ bound below. walk.left bound below ∙ ap (surviving bound) (take_all at given over);
}
