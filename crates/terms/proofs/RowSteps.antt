-- One step along rows that stand one after the other.
use mathlib.Core.Path.{◌≡◌, refl, ap, ◌∙◌, sym}
use mathlib.Core.Bool.{Bool, true}
use mathlib.Core.List.{List, [], ◌∷◌, ◌++◌, map, map-append}
use Prim.Native.Nat.{ℕ, zero, suc, ◌+◌, ◌-◌, ◌*◌, ◌<◌, ◌≤◌}
use native.Mathlib.Omega.{arith}
use native.Mathlib.Nat.{mul-zero, sub-zero, add-zero, mul-le-mul_left}
use lib.ListN.{length, get_or, take, drop, length-take, length-drop, length-map, get_or-map}
use lib.Seq.{drop-drop, take-take, get_or-take, get_or-drop}
use Rattle.lists.specs.Members.{every}
use Rattle.lists.proofs.Every.{every_at}
use Rattle.lists.proofs.Parts.{drop_take}
use Rattle.terms.specs.Rows.{rows_of, term, terms_of}
use Rattle.terms.specs.code.Held.{Held}

pub terms_start : (w count : ℕ) (s : List ℕ) → terms_of w count s ≡ terms_of w (count - 0) (drop (w * 0) s)
terms_start w count s = rw (sub-zero, mul-zero)

module _ (w count place : ℕ) (s : List ℕ) where
  pub rows_step : place < count
      → rows_of w (count - place) (drop (w * place) s)
      ≡ take w (drop (w * place) s) ∷ rows_of w (count - (place + 1)) (drop (w * (place + 1)) s)
  unfolding rows_of
  rows_step h =
      let e : count - place ≡ suc (count - (place + 1)) = omega arith in
      let a : w * place + w ≡ w * (place + 1) = omega arith in
      rw (e, drop-drop w (w * place) s, a)

  pub terms_step : place < count
      → terms_of w (count - place) (drop (w * place) s)
      ≡ term (take w (drop (w * place) s)) ∷ terms_of w (count - (place + 1)) (drop (w * (place + 1)) s)
  unfolding terms_of
  terms_step h = rw (rows_step h)

  pub terms_end : count ≤ place → terms_of w (count - place) (drop (w * place) s) ≡ []
  unfolding terms_of rows_of
  terms_end h = let e : count - place ≡ 0 = omega arith in rw e

-- The row at a place is whole, and its first number is the one that stands there.
module _ (w place : ℕ) (s : List ℕ) (room : w * place + w ≤ length s) where
  pub row_length : length (take w (drop (w * place) s)) ≡ w
  row_length = simp (length-take, length-drop) (omega arith)

  pub row_first : 0 < w → get_or (take w (drop (w * place) s)) 0 0 ≡ get_or s (w * place) 0
  row_first h = rw (get_or-take w (drop (w * place) s) 0 0 h, get_or-drop (w * place) s 0 0, add-zero)

-- The term of a row is as long as the row says.
module _ (row : List ℕ) (within : get_or row 0 0 < length row) where
  pub length_term : length (term row) ≡ get_or row 0 0
  unfolding term
  length_term = simp (length-take, length-drop) (omega arith)

pub length_rows : (w count : ℕ) (s : List ℕ) → length (rows_of w count s) ≡ count
unfolding rows_of
length_rows w zero s = refl
length_rows w (suc count) s = ap suc (length_rows w count (drop w s))

pub length_terms : (w count : ℕ) (s : List ℕ) → length (terms_of w count s) ≡ count
unfolding terms_of
length_terms w count s = length-map (rows_of w count s) term ∙ length_rows w count s

pub rows_at : (w count place : ℕ) (s : List ℕ) → place < count → get_or (rows_of w count s) place [] ≡ take w (drop (w * place) s)
unfolding rows_of
rows_at w zero place s h = absurd (omega arith)
rows_at w (suc count) zero s h = rw mul-zero
rows_at w (suc count) (suc place) s h =
    let e : w + w * place ≡ w * suc place = omega arith in
    rw (rows_at w count place (drop w s) (omega arith), drop-drop (w * place) w s, e)

-- What every term passes the term of each row does.
pub every_term_at : (test : List ℕ → Bool) (w count place : ℕ) (s : List ℕ) → every test (terms_of w count s) ≡ true → place < count
    → test (term (take w (drop (w * place) s))) ≡ true
unfolding terms_of
every_term_at test w count place s all h =
    let at : get_or (terms_of w count s) place (term []) ≡ term (take w (drop (w * place) s)) =
    get_or-map term (rows_of w count s) place [] ∙ ap term (rows_at w count place s h) in
    rw at at (every_at test (terms_of w count s) place (term []) (rw (length_terms w count s) h) all)

-- The first rows are read from the first numbers alone.
rows_take : (w count more : ℕ) (s : List ℕ) → rows_of w count (take (w * count + more) s) ≡ rows_of w count s
unfolding rows_of
rows_take w zero more s = refl
rows_take w (suc count) more s =
    let e : w * suc count + more ≡ w + (w * count + more) = omega arith in
    rw (e, take-take w (w + (w * count + more)) s (omega arith), drop_take w (w * count + more) s, rows_take w count more (drop w s))

pub rows_front : (w count : ℕ) (s t : List ℕ) → take (w * count) s ≡ take (w * count) t → rows_of w count s ≡ rows_of w count t
rows_front w count s t e =
    let same : take (w * count + 0) s ≡ take (w * count + 0) t = rw (add-zero (w * count)) e in
    sym (rows_take w count 0 s) ∙ ap (rows_of w count) same ∙ rows_take w count 0 t

pub terms_front : (w count : ℕ) (s t : List ℕ) → take (w * count) s ≡ take (w * count) t → terms_of w count s ≡ terms_of w count t
unfolding terms_of
terms_front w count s t e = ap (map term) (rows_front w count s t e)

-- A row among the first is read from the first numbers alone.
pub row_front : (w count : ℕ) (s t : List ℕ) → take (w * count) s ≡ take (w * count) t → (place : ℕ) → place < count
    → take w (drop (w * place) s) ≡ take w (drop (w * place) t)
row_front w count s t e place h =
    sym (rows_at w count place s h) ∙ ap (λ rows. get_or rows place []) (rows_front w count s t e) ∙ rows_at w count place t h

-- One row more is the row that follows.
pub rows_more : (w count : ℕ) (s : List ℕ) → rows_of w (count + 1) s ≡ rows_of w count s ++ (take w (drop (w * count) s) ∷ [])
unfolding rows_of
rows_more w zero s = rw mul-zero
rows_more w (suc count) s =
    let e : suc count + 1 ≡ suc (count + 1) = omega arith in
    let d : w + w * count ≡ w * suc count = omega arith in
    rw (e, rows_more w count (drop w s), drop-drop (w * count) w s, d)

pub terms_more : (w count : ℕ) (s : List ℕ) → terms_of w (count + 1) s ≡ terms_of w count s ++ (term (take w (drop (w * count) s)) ∷ [])
unfolding terms_of
terms_more w count s = ap (map term) (rows_more w count s) ∙ map-append term (rows_of w count s) _

-- Of rows that are held, any first ones are.
pub held_fewer : (w fewer count : ℕ) (s : List ℕ) → fewer ≤ count → Held w count s → Held w fewer s
held_fewer w fewer count s h held =
    record {
      wide = held.wide;
      room = omega (arith, mul-le-mul_left w h, held.room);
      within = λ place k. held.within place (omega arith);
      zeros = λ place k. held.zeros place (omega arith);
    }

-- Each of rows that are held is whole.
pub row_room : (w count place : ℕ) (s : List ℕ) → Held w count s → place < count → w * place + w ≤ length s
row_room w count place s held h = omega (arith, mul-le-mul_left w h, held.room)

-- What is the same from a row on is the same from the next one on.
pub rest_on : (w place : ℕ) (s t : List ℕ) → drop (w * place) s ≡ drop (w * place) t → drop (w * (place + 1)) s ≡ drop (w * (place + 1)) t
rest_on w place s t same =
    let e : w * place + w ≡ w * (place + 1) = omega arith in
    rw (← e, ← drop-drop w (w * place) s, ← drop-drop w (w * place) t, same) refl
