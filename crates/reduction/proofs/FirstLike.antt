-- The first term of a list that is like another: where it stands, and what is added to its row.
use mathlib.Core.Path.{◌≡◌, refl, ap}
use mathlib.Core.Bool.{Bool, true, false, cond, not, ◌||◌}
use mathlib.Core.List.{List, [], ◌∷◌}
use Prim.Native.Nat.{ℕ, zero, suc, ◌+◌, ◌<◌}
use native.Mathlib.Omega.{arith}
use lib.ListN.{length, get_or, take, set}
use Rattle.lists.specs.Members.{some_of, leading, alike}
use Rattle.terms.specs.Counted.{Row, terms_in}
use Rattle.reduction.specs.Counts.{gone, added}
use Rattle.reduction.specs.code.Marks.{first_like}

module _ (term : List ℕ) where
  -- None is like it.
  pub first_like_none : (terms : List (List ℕ)) → some_of (alike term) terms ≡ false → first_like term terms ≡ length terms
  unfolding first_like leading some_of
  first_like_none [] e = refl
  first_like_none (other ∷ terms) e = go (alike term other) refl (first_like_none terms)
    where
      go : (b : Bool) → alike term other ≡ b → (some_of (alike term) terms ≡ false → first_like term terms ≡ length terms)
          → cond (not b) (suc (first_like term terms)) 0 ≡ suc (length terms)
      go true f rest = let z : ◌≡◌ {A = Bool} true false = rw f at e in let y : ◌≡◌ {A = ℕ} 0 1 = cc in absurd (omega arith)
      go false f rest = ap suc (rest (rw f at e))

  -- The one at a place is like it, and none before it.
  pub first_like_at : (terms : List (List ℕ)) (place : ℕ) → place < length terms → alike term (get_or terms place []) ≡ true
      → some_of (alike term) (take place terms) ≡ false → first_like term terms ≡ place
  unfolding first_like leading some_of
  first_like_at [] place h like none = absurd (omega arith)
  first_like_at (other ∷ terms) zero h like none = rw like
  first_like_at (other ∷ terms) (suc place) h like none =
      go (alike term other) refl (first_like_at terms place (omega arith) like)
    where
      go : (b : Bool) → alike term other ≡ b → (some_of (alike term) (take place terms) ≡ false → first_like term terms ≡ place)
          → cond (not b) (suc (first_like term terms)) 0 ≡ suc place
      go true f rest = let z : ◌≡◌ {A = Bool} true false = rw f at none in let y : ◌≡◌ {A = ℕ} 0 1 = cc in absurd (omega arith)
      go false f rest = ap suc (rest (rw f at none))

  -- It is within the list just where one is like it, and that one is.
  pub first_like_some : (terms : List (List ℕ)) → first_like term terms < length terms → some_of (alike term) terms ≡ true
  unfolding first_like leading some_of
  first_like_some [] h = absurd (omega arith)
  first_like_some (other ∷ terms) h = go (alike term other) refl (first_like_some terms)
    where
      go : (b : Bool) → alike term other ≡ b → (first_like term terms < length terms → some_of (alike term) terms ≡ true)
          → (b || some_of (alike term) terms) ≡ true
      go true f rest = refl
      go false f rest = rest (let k = rw f at h in omega arith)

  pub first_like_below : (terms : List (List ℕ)) → some_of (alike term) terms ≡ true → first_like term terms < length terms
  unfolding first_like leading some_of
  first_like_below [] e = let z : ◌≡◌ {A = ℕ} 0 1 = cc in absurd (omega arith)
  first_like_below (other ∷ terms) e = go (alike term other) refl (first_like_below terms)
    where
      go : (b : Bool) → alike term other ≡ b → (some_of (alike term) terms ≡ true → first_like term terms < length terms)
          → cond (not b) (suc (first_like term terms)) 0 < suc (length terms)
      go true f rest = omega arith
      go false f rest = let k = rest (rw f at e) in omega arith

  pub first_like_is : (terms : List (List ℕ)) → first_like term terms < length terms
      → alike term (get_or terms (first_like term terms) []) ≡ true
  unfolding first_like leading
  first_like_is [] h = absurd (omega arith)
  first_like_is (other ∷ terms) h = go (alike term other) refl (first_like_is terms)
    where
      go : (b : Bool) → alike term other ≡ b
          → (first_like term terms < length terms → alike term (get_or terms (first_like term terms) []) ≡ true)
          → alike term (get_or (other ∷ terms) (cond (not b) (suc (first_like term terms)) 0) []) ≡ true
      go true f rest = f
      go false f rest = rest (let k = rw f at h in omega arith)

  -- A count added to the first row that is like it is added there.
  pub added_at : (more : ℕ) (rows : List Row) → first_like term (terms_in rows) < length rows
      → (let place = first_like term (terms_in rows) in
      added more term rows ≡ set rows place (record { term = (get_or rows place gone).term; count = (get_or rows place gone).count + more }))
  unfolding first_like leading terms_in added
  added_at more [] h = absurd (omega arith)
  added_at more (row ∷ rows) h = go (alike term row.term) refl (added_at more rows)
    where
      go : (b : Bool) → alike term row.term ≡ b
          → (first_like term (terms_in rows) < length rows
          → (let place = first_like term (terms_in rows) in
          added more term rows ≡ set rows place (record { term = (get_or rows place gone).term; count = (get_or rows place gone).count + more })))
          → (let place = cond (not b) (suc (first_like term (terms_in rows))) 0 in
          cond b (record { term = row.term; count = row.count + more } ∷ rows) (row ∷ added more term rows)
          ≡ set (row ∷ rows) place (record { term = (get_or (row ∷ rows) place gone).term; count = (get_or (row ∷ rows) place gone).count + more }))
      go true f rest = refl
      go false f rest = ap (λ l. row ∷ l) (rest (let k = rw f at h in omega arith))
