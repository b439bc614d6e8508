-- Work rows: their terms and counts, one row more, and the work rows of input rows.
use mathlib.Core.Path.{◌≡◌, refl, ap, ◌∙◌, sym}
use mathlib.Core.List.{List, [], ◌∷◌, ◌++◌, map, map-append}
use Prim.Native.Nat.{ℕ, ◌+◌, ◌-◌, ◌*◌, ◌<◌, ◌≤◌}
use native.Mathlib.Omega.{arith}
use lib.ListN.{length, get_or, take, drop, length-append, length-map, get_or-append, get_or-map}
use lib.Seq.{take-append-le, get_or-append_seam}
use Rattle.lists.specs.Counting.{sum}
use Rattle.lists.specs.Written.{written_at}
use Rattle.terms.specs.Rows.{rows_of, term, terms_of}
use Rattle.terms.specs.Counted.{row_of, counted_of, each_once, terms_in, counted}
use Rattle.terms.specs.code.Held.{Held, Given, Worked, Spread}
use Rattle.terms.proofs.RowSteps.{row_length, row_first, rows_at, length_rows, rows_step, rows_more, rows_front, length_terms, terms_more, rest_on}
use Rattle.terms.proofs.RowPut.{held_none, put_rows, put_held, put_rest, put_length}

-- A row's term is read from the numbers before its end, whatever stands behind them.
pub term_joined : (row more : List ℕ) → get_or row 0 0 < length row → term (row ++ more) ≡ term row
unfolding term
term_joined [] more h = absurd (omega arith)
term_joined (first ∷ row) more h = take-append-le first row more (omega arith)

-- The rows' terms are those of the numbers.
pub terms_counted : (count : ℕ) (s : List ℕ) → terms_in (counted_of count s) ≡ terms_of 9 count s
unfolding terms_in counted_of terms_of row_of
terms_counted count s = go (rows_of 9 count s)
  where
    go : (rows : List (List ℕ)) → map (λ row. row.term) (map row_of rows) ≡ map term rows
    go [] = refl
    go (row ∷ rows) = ap (λ l. term row ∷ l) (go rows)

pub length_counted : (count : ℕ) (s : List ℕ) → length (counted_of count s) ≡ count
unfolding counted_of
length_counted count s = length-map (rows_of 9 count s) row_of ∙ length_rows 9 count s

-- Along the rows.
module _ (count place : ℕ) (s : List ℕ) where
  pub counted_step : place < count
      → counted_of (count - place) (drop (9 * place) s)
      ≡ row_of (take 9 (drop (9 * place) s)) ∷ counted_of (count - (place + 1)) (drop (9 * (place + 1)) s)
  unfolding counted_of
  counted_step h = rw (rows_step 9 count place s h)

  pub counted_end : count ≤ place → counted_of (count - place) (drop (9 * place) s) ≡ []
  unfolding counted_of rows_of
  counted_end h = let e : count - place ≡ 0 = omega arith in rw e

pub counted_none : (s : List ℕ) → counted_of 0 s ≡ []
unfolding counted_of rows_of
counted_none s = refl

pub counted_front : (count : ℕ) (s t : List ℕ) → take (9 * count) s ≡ take (9 * count) t → counted_of count s ≡ counted_of count t
unfolding counted_of
counted_front count s t e = ap (map row_of) (rows_front 9 count s t e)

pub counted_more : (place : ℕ) (s : List ℕ) → counted_of (place + 1) s ≡ counted_of place s ++ (row_of (take 9 (drop (9 * place) s)) ∷ [])
unfolding counted_of
counted_more place s = ap (map row_of) (rows_more 9 place s) ∙ map-append row_of (rows_of 9 place s) _

pub counted_at : (count place : ℕ) (s : List ℕ) → place < count → get_or (counted_of count s) place (row_of []) ≡ row_of (take 9 (drop (9 * place) s))
unfolding counted_of
counted_at count place s h = get_or-map row_of (rows_of 9 count s) place [] ∙ ap row_of (rows_at 9 count place s h)

pub counted_put : (place : ℕ) (before row : List ℕ) → Held 9 place before → 9 * place + 9 ≤ length before → length row ≡ 9
    → counted_of (place + 1) (written_at (9 * place) row before) ≡ counted_of place before ++ (row_of row ∷ [])
unfolding counted_of
counted_put place before row held room whole =
    ap (map row_of) (put_rows 9 place before row held room whole) ∙ map-append row_of (rows_of 9 place before) (row ∷ [])

-- Rows that stand for themselves.
pub terms_once : (terms : List (List ℕ)) → terms_in (each_once terms) ≡ terms
unfolding terms_in each_once
terms_once [] = refl
terms_once (first ∷ terms) = ap (λ l. first ∷ l) (terms_once terms)

pub counted_once : (terms : List (List ℕ)) → counted (each_once terms) ≡ length terms
unfolding counted each_once sum
counted_once [] = refl
counted_once (first ∷ terms) = omega (arith, counted_once terms)

module _ (count : ℕ) (numbers rows : List ℕ) (spread : Spread count numbers rows) where
  pub spread_terms : terms_of 9 count rows ≡ terms_of 8 count numbers
  spread_terms = sym (terms_counted count rows) ∙ ap terms_in spread.rows_are ∙ terms_once (terms_of 8 count numbers)

  pub spread_worked : count ≤ 2048 → Worked count rows
  spread_worked few =
      record {
        held = spread.held;
        few = rw (spread.rows_are, counted_once (terms_of 8 count numbers), length_terms 8 count numbers) few;
      }

-- Input rows made work rows one by one.
pub record Spreading (count : ℕ) (numbers before rows : List ℕ) (place : ℕ) : Type 0 where
  pub inside : place ≤ count
  pub spread : Spread place numbers rows
  pub same_length : length rows ≡ length before
  pub rest : drop (9 * place) rows ≡ drop (9 * place) before

module _ (count : ℕ) (numbers before : List ℕ) where
  pub spreading_starts : Spreading count numbers before before 0
  unfolding terms_of rows_of each_once
  spreading_starts =
      record {
        inside = omega arith;
        spread = record { held = held_none 9 before (omega arith); rows_are = counted_none before };
        same_length = refl;
        rest = refl;
      }

  module _ (given : Given count numbers) (room : 9 * count ≤ length before) (rows : List ℕ) (place : ℕ)
      (s : Spreading count numbers before rows place) (h : place < count) where
    abbrev here : List ℕ
    here = take 8 (drop (8 * place) numbers)

    pub here_room : 8 * place + 8 ≤ length numbers
    here_room = omega (arith, given.held.room)

    pub next_room : 9 * place + 9 ≤ length rows
    next_room = rw s.same_length (omega (arith, room))

    abbrev row : List ℕ
    row = here ++ (1 ∷ [])

    size : length here ≡ 8
    size = row_length 8 place numbers here_room

    whole : length row ≡ 9
    whole = length-append here (1 ∷ []) ∙ ap (λ n. n + 1) size

    first : get_or here 0 0 ≡ get_or numbers (8 * place) 0
    first = row_first 8 place numbers here_room (omega arith)

    row_first_is : get_or row 0 0 ≡ get_or numbers (8 * place) 0
    row_first_is = get_or-append here (1 ∷ []) 0 0 (rw size (omega arith)) ∙ first

    row_is : row_of row ≡ record { term = term here; count = 1 }
    unfolding row_of
    row_is =
        let one : get_or row 8 0 ≡ 1 = rw size at (get_or-append_seam here 1 [] 0) in
        rw (term_joined here (1 ∷ []) (rw (size, first) (given.held.within place h)), one)

    abbrev after : List ℕ
    after = written_at (9 * place) row rows

    pub spreading_on : Spreading count numbers before after (place + 1)
    unfolding each_once
    spreading_on =
        record {
          inside = omega arith;
          spread =
              record {
                held =
                    put_held 9 place rows row s.spread.held next_room whole (rw row_first_is (given.held.within place h))
                    (λ none. absurd (omega (arith, given.there place h, row_first_is, none)));
                rows_are =
                    counted_put place rows row s.spread.held next_room whole
                    ∙ rw (s.spread.rows_are, row_is, terms_more 8 place numbers)
                    (sym (map-append (λ term. record { term = term; count = 1 }) (terms_of 8 place numbers) (term here ∷ [])));
              };
          same_length = put_length 9 place rows row s.spread.held next_room whole ∙ s.same_length;
          rest =
              put_rest 9 place rows row s.spread.held next_room whole ∙ rest_on 9 place rows before s.rest;
        }
