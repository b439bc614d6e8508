-- One row reduced: dropped, merged or left, and what the rows are with it put behind those before it.
use mathlib.Core.Path.{◌≡◌, refl, ap, ◌∙◌, sym}
use mathlib.Core.Bool.{true, false}
use mathlib.Core.List.{List, [], ◌∷◌, ◌++◌, map}
use mathlib.Core.Logic.{⊎_elim}
use Prim.Native.Nat.{ℕ, zero, suc, ◌+◌, ◌*◌, ◌<◌, ◌≤◌}
use native.Mathlib.Nat.{mul-zero, zero-add}
use native.Mathlib.Omega.{arith}
use lib.ListN.{length, get_or, set, take, drop, replicate, length-set}
use lib.Seq.{drop-drop, get_or-take, get_or-drop, get_or-set_same, get_or-set_other, set-append_left, take-set-le, take-set-lt, drop-set-lt, drop-set-add}
use Rattle.lists.specs.Members.{some_of, alike}
use Rattle.lists.specs.Written.{written_at}
use Rattle.lists.proofs.Alike.{alike_same}
use Rattle.lists.proofs.Written.{getD_before}
use Rattle.lists.proofs.Tests.{same_or_not, not_so}
use Rattle.entities.specs.declared.Triple.{Triple}
use Rattle.terms.specs.declared.rules.Rule.{Rule}
use Rattle.terms.specs.Rows.{rows_of, term, terms_of}
use Rattle.terms.specs.Counted.{row_of, counted_of, terms_in, counted}
use Rattle.terms.specs.code.Held.{Held, Worked}
use Rattle.terms.proofs.RowSteps.{row_length, row_first, row_room, rows_at, length_term, length_terms, row_front, terms_front, held_fewer}
use Rattle.terms.proofs.RowPut.{put_front, put_there, put_held, put_terms, put_rest, put_length}
use Rattle.terms.proofs.CountedRows.{terms_counted, length_counted, counted_front, counted_put, counted_more, counted_at}
use Rattle.reduction.specs.Reduction.{sorted, rewriting, dropped}
use Rattle.reduction.specs.Counts.{gone, added, put_behind, rewritten}
use Rattle.reduction.specs.code.Marks.{first_like}
use Rattle.reduction.specs.code.Promises.{Rewritten, merged_rows, drop_of, RowSettled, RowReduced}
use Rattle.reduction.proofs.ChainedRows.{terms_at}
use Rattle.reduction.proofs.CountedReduction.{terms_joined, terms_added, counted_joined, counted_one, count_at_most, gone_behind, gone_drops}
use Rattle.reduction.proofs.FirstLike.{first_like_some, first_like_below, first_like_is, added_at}

pub no_term : (row : List ℕ) → get_or row 0 0 ≡ 0 → term row ≡ []
unfolding term
no_term row none = rw none

-- A number set within one row: that row is another, and the others are as they were.
rows_set : (w count place i : ℕ) (s : List ℕ) (v : ℕ) → place < count → i < w
    → rows_of w count (set s (w * place + i) v) ≡ set (rows_of w count s) place (set (take w (drop (w * place) s)) i v)
unfolding rows_of
rows_set w zero place i s v h k = absurd (omega arith)
rows_set w (suc count) zero i s v h k =
    rw (mul-zero w, zero-add i, take-set-lt w s i v k, drop-set-lt w s i v k)
rows_set w (suc count) (suc place) i s v h k =
    let e : w * suc place + i ≡ w + (w * place + i) = omega arith in
    let d : w * suc place ≡ w + w * place = omega arith in
    rw (e, take-set-le w s (w + (w * place + i)) v (omega arith), drop-set-add w s (w * place + i) v, d, ← drop-drop (w * place) w s)
    (ap (λ l. take w s ∷ l) (rows_set w count place i (drop w s) v (omega arith) k))

map_set : {A B : Type 0} (f : A → B) (l : List A) (i : ℕ) (a : A) → map f (set l i a) ≡ set (map f l) i (f a)
map_set f [] i a = refl
map_set f (x ∷ l) zero a = refl
map_set f (x ∷ l) (suc i) a = ap (λ m. f x ∷ m) (map_set f l i a)

-- A row with another count.
row_counted : (row : List ℕ) (v : ℕ) → length row ≡ 9 → get_or row 0 0 < 8 → row_of (set row 8 v) ≡ record { term = term row; count = v }
unfolding row_of term
row_counted row v whole short =
    rw (
      get_or-set_other row 8 0 v 0 (λ e. let z : ◌≡◌ {A = ℕ} 0 1 = cc in absurd (omega arith)),
      drop-set-add 1 row 7 v,
      take-set-le (get_or row 0 0) (drop 1 row) 7 v (omega arith),
      get_or-set_same row 8 v 0 (rw whole (omega arith)),
    )

-- Another count set in one of rows that are held.
module _ (count place : ℕ) (s : List ℕ) (v : ℕ) (held : Held 9 count s) (h : place < count) where
  abbrev row : List ℕ
  row = take 9 (drop (9 * place) s)

  abbrev other : List ℕ
  other = set s (9 * place + 8) v

  counted_set : counted_of count other ≡ set (counted_of count s) place (record { term = term row; count = v })
  unfolding counted_of
  counted_set =
      let room = row_room 9 count place s held h in
      ap (map row_of) (rows_set 9 count place 8 s v h (omega arith))
      ∙ map_set row_of (rows_of 9 count s) place (set row 8 v)
      ∙ ap (set (map row_of (rows_of 9 count s)) place)
      (row_counted row v (row_length 9 place s room) (rw (row_first 9 place s room (omega arith)) (held.within place h)))

  held_set : 0 < get_or s (9 * place) 0 → Held 9 count other
  held_set some =
      let first : (q : ℕ) → get_or other (9 * q) 0 ≡ get_or s (9 * q) 0 = λ q. get_or-set_other s (9 * place + 8) (9 * q) v 0 (λ e. absurd (omega arith)) in
      let apart : (q : ℕ) → q < count → (q ≡ place → ⊥) → take 9 (drop (9 * q) other) ≡ take 9 (drop (9 * q) s) =
      λ q k e.
      sym (rows_at 9 count q other k)
      ∙ ap (λ l. get_or l q []) (rows_set 9 count place 8 s v h (omega arith))
      ∙ get_or-set_other (rows_of 9 count s) place q (set row 8 v) [] e
      ∙ rows_at 9 count q s k in
      record {
        wide = held.wide;
        room = rw (length-set s (9 * place + 8) v) held.room;
        within = λ q k. rw (first q) (held.within q k);
        zeros = λ q k none.
            ⊎_elim (λ same. absurd (omega (arith, some, first q, none, ap (λ n. get_or s (9 * n) 0) same)))
            (λ e. apart q k e ∙ held.zeros q k (sym (first q) ∙ none)) (same_or_not q place);
      }

-- A row of zeros.
row_gone : row_of (replicate 9 0) ≡ gone
unfolding row_of term gone
row_gone = refl

-- A row that stands among rows that are held.
module _ (place : ℕ) (rows : List ℕ) (held : Held 9 (place + 1) rows) where
  abbrev here : List ℕ
  here = take 9 (drop (9 * place) rows)

  pub room_here : 9 * place + 9 ≤ length rows
  room_here = omega (arith, held.room)

  first_here : get_or here 0 0 ≡ get_or rows (9 * place) 0
  first_here = row_first 9 place rows room_here (omega arith)

  count_here : get_or here 8 0 ≡ get_or rows (9 * place + 8) 0
  count_here = get_or-take 9 (drop (9 * place) rows) 8 0 (omega arith) ∙ get_or-drop (9 * place) rows 8 0

  front : Held 9 place rows
  front = held_fewer 9 place (place + 1) rows (omega arith) held

  abbrev cleared : List ℕ
  cleared = written_at (9 * place) (replicate 9 0) rows

  cleared_rows : counted_of (place + 1) cleared ≡ counted_of place rows ++ (gone ∷ [])
  cleared_rows = counted_put place rows (replicate 9 0) front room_here refl ∙ ap (λ r. counted_of place rows ++ (r ∷ [])) row_gone

  pub cleared_terms : terms_of 9 (place + 1) cleared ≡ terms_of 9 place rows ++ ([] ∷ [])
  unfolding term
  cleared_terms = put_terms 9 place rows (replicate 9 0) front room_here refl

  cleared_held : Held 9 (place + 1) cleared
  cleared_held = put_held 9 place rows (replicate 9 0) front room_here refl (omega arith) (λ none. refl)

  cleared_rest : drop (9 * (place + 1)) cleared ≡ drop (9 * (place + 1)) rows
  cleared_rest = put_rest 9 place rows (replicate 9 0) front room_here refl

  pub cleared_length : length cleared ≡ length rows
  cleared_length = put_length 9 place rows (replicate 9 0) front room_here refl

  -- None before it has its term where the search ended at its place.
  pub none_like : place ≤ first_like (term here) (terms_of 9 place rows) → some_of (alike (term here)) (terms_of 9 place rows) ≡ false
  none_like none =
      not_so _
      (λ found. omega (arith, none, first_like_below (term here) (terms_of 9 place rows) found, length_terms 9 place rows))

  module _ (rule : Rule) (parent : ℕ) where
    -- It is dropped.
    pub row_drops : dropped rule parent (term here) ≡ true → RowSettled rule parent place rows cleared (get_or rows (9 * place + 8) 0)
    unfolding put_behind drop_of row_of
    row_drops e =
        record {
          rows = cleared_rows ∙ rw e;
          held = cleared_held;
          same_length = cleared_length;
          rest = cleared_rest;
          drops_are = sym count_here ∙ rw e;
        }

    -- It is left as it is.
    pub row_stays : dropped rule parent (term here) ≡ false → place ≤ first_like (term here) (terms_of 9 place rows)
        → RowSettled rule parent place rows rows 0
    unfolding put_behind drop_of row_of
    row_stays e none =
        record {
          rows = counted_more place rows ∙ rw (e, terms_counted place rows, none_like none);
          held = held;
          same_length = refl;
          rest = refl;
          drops_are = rw e;
        }

  -- A row before it.
  module _ (first : ℕ) (before : first < place) where
    abbrev there : List ℕ
    there = take 9 (drop (9 * first) rows)

    there_first : take 9 (drop (9 * first) cleared) ≡ there
    there_first = row_front 9 place cleared rows (put_front 9 place rows (replicate 9 0) front room_here refl) first before

    room_there : 9 * first + 9 ≤ length rows
    room_there = omega (arith, room_here)

    count_there : get_or cleared (9 * first + 8) 0 ≡ get_or there 8 0
    count_there =
        getD_before (9 * place) (replicate 9 0) rows (omega (arith, room_here)) (9 * first + 8) 0 (omega arith)
        ∙ sym (get_or-take 9 (drop (9 * first) rows) 8 0 (omega arith) ∙ get_or-drop (9 * first) rows 8 0)

    abbrev more : ℕ
    more = get_or cleared (9 * first + 8) 0 + get_or rows (9 * place + 8) 0

    -- The two counts are among those of all rows, and so is their sum.
    pub counts_fit : counted (counted_of (place + 1) rows) ≤ 2048 → more < 65536
    unfolding row_of
    counts_fit few =
        let earlier = rw (counted_at place first rows before) at
        (count_at_most (counted_of place rows) first (row_of []) (rw (length_counted place rows) before)) in
        let all = ap counted (counted_more place rows) ∙ counted_joined (counted_of place rows) (row_of here ∷ []) in
        omega (arith, few, earlier, all, counted_one (row_of here), count_there, count_here)

    -- Its count goes to that row where it is the first that has its term.
    module _ (some : 0 < length (term here)) (is_first : first ≡ first_like (term here) (terms_of 9 place rows)) where
      inside : first_like (term here) (terms_of 9 place rows) < length (terms_of 9 place rows)
      inside = omega (arith, is_first, before, length_terms 9 place rows)

      like_there : term here ≡ term there
      like_there =
          alike_same (term here) (term there)
          (rw (← is_first, terms_at 9 place first rows before) at (first_like_is (term here) (terms_of 9 place rows) inside))

      first_there : 0 < get_or cleared (9 * first) 0
      first_there =
          let same : get_or cleared (9 * first) 0 ≡ get_or rows (9 * first) 0 =
          getD_before (9 * place) (replicate 9 0) rows (omega (arith, room_here)) (9 * first) 0 (omega arith) in
          let begins = row_first 9 first rows room_there (omega arith) in
          let short = front.within first before in
          let long = length_term there (rw (row_length 9 first rows room_there, begins) (omega (arith, short))) in
          omega (arith, same, begins, long, some, ap length like_there)

      added_here : added (get_or here 8 0) (term here) (counted_of place rows)
          ≡ set (counted_of place rows) first (record { term = term there; count = get_or there 8 0 + get_or here 8 0 })
      unfolding gone row_of term
      added_here =
          let at = rw (terms_counted place rows, ← is_first) at (added_at (term here) (get_or here 8 0) (counted_of place rows)) in
          rw (counted_at place first rows before) at (at (rw (length_counted place rows) before))

      set_here : set (counted_of (place + 1) cleared) first (record { term = term (take 9 (drop (9 * first) cleared)); count = more })
          ≡ added (get_or here 8 0) (term here) (counted_of place rows) ++ (gone ∷ [])
      set_here =
          rw (cleared_rows, there_first, count_there, ← count_here, added_here)
          (set-append_left (counted_of place rows) (gone ∷ []) first _ (rw (length_counted place rows) before))

      pub row_merges : (rule : Rule) (parent : ℕ) → dropped rule parent (term here) ≡ false
          → RowSettled rule parent place rows (merged_rows place first rows) 0
      unfolding merged_rows put_behind drop_of row_of
      row_merges rule parent e =
          record {
            rows =
                counted_set (place + 1) first cleared more cleared_held (omega arith)
                ∙ set_here
                ∙ rw (e, terms_counted place rows, first_like_some (term here) (terms_of 9 place rows) inside);
            held = held_set (place + 1) first cleared more cleared_held (omega arith) first_there;
            same_length = length-set cleared (9 * first + 8) more ∙ cleared_length;
            rest = drop-set-lt (9 * (place + 1)) cleared (9 * first + 8) more (omega arith) ∙ cleared_rest;
            drops_are = rw e;
          }

      -- Its terms are those before it and an empty one.
      pub merged_terms : terms_of 9 (place + 1) (merged_rows place first rows) ≡ terms_of 9 place rows ++ ([] ∷ [])
      unfolding merged_rows terms_in gone
      merged_terms =
          sym (terms_counted (place + 1) (merged_rows place first rows))
          ∙ ap terms_in (counted_set (place + 1) first cleared more cleared_held (omega arith) ∙ set_here)
          ∙ terms_joined (added (get_or here 8 0) (term here) (counted_of place rows)) (gone ∷ [])
          ∙ ap (λ l. l ++ ([] ∷ [])) (terms_added (get_or here 8 0) (term here) (counted_of place rows) ∙ terms_counted place rows)

-- A row that is there is rewritten first, and the row that this makes is settled.
module _ (rule : Rule) (triple : Triple) (parent place : ℕ) (rows : List ℕ) (worked : Worked (place + 1) rows) where
  abbrev old : List ℕ
  old = take 9 (drop (9 * place) rows)

  old_first : get_or old 0 0 ≡ get_or rows (9 * place) 0
  old_first = first_here place rows worked.held

  -- Where it is gone already, it is reduced as it is.
  module _ (none : get_or rows (9 * place) 0 ≡ 0) where
    pub gone_term : term old ≡ []
    gone_term = no_term old (old_first ∙ none)

    gone_row : rewritten triple parent (row_of old) ≡ gone
    unfolding rewritten row_of rewriting sorted gone term
    gone_row = rw (worked.held.zeros place (omega arith) none)

    pub stays_gone : RowReduced rule triple parent place rows rows 0
    stays_gone =
        let zeros : row_of old ≡ gone = ap row_of (worked.held.zeros place (omega arith) none) ∙ row_gone in
        record {
          rows = counted_more place rows ∙ rw (gone_row, zeros) (sym (gone_behind rule parent (counted_of place rows)));
          held = worked.held;
          same_length = refl;
          rest = refl;
          drops_are = rw gone_row (sym (gone_drops rule parent));
        }

  module _ (some : get_or rows (9 * place) 0 ≡ 0 → ⊥) (row : List ℕ) (whole : length row ≡ 9) (r : Rewritten triple parent old row) where
    abbrev between : List ℕ
    between = written_at (9 * place) row rows

    before_it : Held 9 place rows
    before_it = front place rows worked.held

    room : 9 * place + 9 ≤ length rows
    room = room_here place rows worked.held

    between_held : Held 9 (place + 1) between
    between_held =
        put_held 9 place rows row before_it room whole
        (rw (r.same_length, old_first) (worked.held.within place (omega arith)))
        (λ zero. absurd (some (sym old_first ∙ sym r.same_length ∙ zero)))

    row_is : row_of row ≡ rewritten triple parent (row_of old)
    unfolding rewritten row_of
    row_is = rw (r.new_term, r.same_count)

    pub between_worked : Worked (place + 1) between
    unfolding row_of
    between_worked =
        let now_all = ap counted (counted_put place rows row before_it room whole) ∙ counted_joined (counted_of place rows) (row_of row ∷ []) in
        let all = ap counted (counted_more place rows) ∙ counted_joined (counted_of place rows) (row_of old ∷ []) in
        record {
          held = between_held;
          few = omega (arith, worked.few, now_all, all, counted_one (row_of row), counted_one (row_of old), r.same_count);
        }

    pub between_terms : terms_of 9 place between ≡ terms_of 9 place rows
    between_terms = terms_front 9 place between rows (put_front 9 place rows row before_it room whole)

    between_row : take 9 (drop (9 * place) between) ≡ row
    between_row = put_there 9 place rows row before_it room whole

    -- A term that is rewritten is as long as it was, so it is not empty.
    pub between_there : 0 < length (term (take 9 (drop (9 * place) between)))
    between_there =
        let short = worked.held.within place (omega arith) in
        let long = length_term row (omega (arith, whole, r.same_length, old_first, short)) in
        rw between_row (omega (arith, long, r.same_length, old_first, some))

    pub then_settled : (later : List ℕ) (drops : ℕ) → RowSettled rule parent place between later drops → RowReduced rule triple parent place rows later drops
    then_settled later drops s =
        let same_row : row_of (take 9 (drop (9 * place) between)) ≡ rewritten triple parent (row_of old) = ap row_of between_row ∙ row_is in
        let same_front = counted_front place between rows (put_front 9 place rows row before_it room whole) in
        record {
          rows = rw (same_row, same_front) at s.rows;
          held = s.held;
          same_length = s.same_length ∙ put_length 9 place rows row before_it room whole;
          rest = s.rest ∙ put_rest 9 place rows row before_it room whole;
          drops_are = rw same_row at s.drops_are;
        }
