-- Reduction with counts: the terms are those of the reduction, and what the rows stand for and what was dropped add up.
use mathlib.Core.Path.{◌≡◌, refl, ap, ◌∙◌, sym}
use mathlib.Core.Bool.{Bool, true, false, cond, not, ◌&&◌}
use mathlib.Core.List.{List, [], ◌∷◌, ◌++◌, map, map-append, append-nil, append_assoc}
use Prim.Native.Nat.{ℕ, zero, suc, ◌+◌, ◌<◌, ◌≤◌}
use native.Mathlib.Nat.{add-zero}
use native.Mathlib.Omega.{arith}
use lib.ListN.{length, get_or}
use Rattle.lists.specs.Counting.{sum}
use Rattle.lists.specs.Members.{keep, some_of, alike}
use Rattle.lists.specs.Renewed.{renewed_after, renewed}
use Rattle.lists.proofs.Sums.{sum_append}
use Rattle.entities.specs.declared.Triple.{Triple}
use Rattle.terms.specs.declared.rules.Rule.{Rule}
use Rattle.terms.specs.Counted.{Row, terms_in, counted}
use Rattle.reduction.specs.Reduction.{rewriting, dropped, stays, settled, reduced_row, reduction}
use Rattle.reduction.specs.Counts.{
  gone,
  added,
  put_behind,
  rewritten,
  reduced_behind,
  counted_reduction,
  dropped_count,
  CountsChangeNoRow,
  ReductionAddsUp,
}
use Rattle.reduction.specs.code.Promises.{drop_of}

-- Two parts of rows.
pub terms_joined : (l m : List Row) → terms_in (l ++ m) ≡ terms_in l ++ terms_in m
unfolding terms_in
terms_joined l m = map-append (λ row. row.term) l m

pub counted_joined : (l m : List Row) → counted (l ++ m) ≡ counted l + counted m
unfolding counted
counted_joined l m = sum_append (λ row. row.count) l m

pub counted_empty : counted [] ≡ 0
unfolding counted sum
counted_empty = refl

pub counted_first : (row : Row) (rows : List Row) → counted (row ∷ rows) ≡ row.count + counted rows
unfolding counted sum
counted_first row rows = refl

pub counted_one : (row : Row) → counted (row ∷ []) ≡ row.count
unfolding counted sum
counted_one row = omega arith

-- Each row's count is among those of all.
pub count_at_most : (rows : List Row) (place : ℕ) (none : Row) → place < length rows → (get_or rows place none).count ≤ counted rows
unfolding counted sum
count_at_most [] place none h = absurd (omega arith)
count_at_most (row ∷ rows) zero none h = omega arith
count_at_most (row ∷ rows) (suc place) none h = omega (arith, count_at_most rows place none (omega arith))

-- A count added changes no term, and is all that is added.
pub terms_added : (more : ℕ) (term : List ℕ) (rows : List Row) → terms_in (added more term rows) ≡ terms_in rows
unfolding terms_in added
terms_added more term [] = refl
terms_added more term (row ∷ rows) = go (alike term row.term) (terms_added more term rows)
  where
    go : (b : Bool) → terms_in (added more term rows) ≡ terms_in rows
        → terms_in (cond b (record { term = row.term; count = row.count + more } ∷ rows) (row ∷ added more term rows)) ≡ row.term ∷ terms_in rows
    go true rest = refl
    go false rest = ap (λ l. row.term ∷ l) rest

counted_added : (more : ℕ) (term : List ℕ) (rows : List Row) → some_of (alike term) (terms_in rows) ≡ true
    → counted (added more term rows) ≡ counted rows + more
unfolding terms_in counted added some_of sum
counted_added more term [] e = let z : ◌≡◌ {A = ℕ} 0 1 = cc in absurd (omega arith)
counted_added more term (row ∷ rows) e = go (alike term row.term) refl (counted_added more term rows)
  where
    go : (b : Bool) → alike term row.term ≡ b
        → (some_of (alike term) (terms_in rows) ≡ true → counted (added more term rows) ≡ counted rows + more)
        → counted (cond b (record { term = row.term; count = row.count + more } ∷ rows) (row ∷ added more term rows)) ≡ counted (row ∷ rows) + more
    go true f rest = omega arith
    go false f rest = omega (arith, rest (rw f at e))

added_nothing : (term : List ℕ) (rows : List Row) → added 0 term rows ≡ rows
unfolding added
added_nothing term [] = refl
added_nothing term (row ∷ rows) = go (alike term row.term) (added_nothing term rows)
  where
    go : (b : Bool) → added 0 term rows ≡ rows
        → cond b (record { term = row.term; count = row.count + 0 } ∷ rows) (row ∷ added 0 term rows) ≡ row ∷ rows
    go true rest = rw (add-zero row.count)
    go false rest = ap (λ l. row ∷ l) rest

-- A row that is gone stays gone, whatever the rule says of its empty term, and nothing is dropped with it.
module _ (rule : Rule) (parent : ℕ) where
  pub gone_behind : (before : List Row) → put_behind rule parent before gone ≡ before ++ (gone ∷ [])
  unfolding put_behind gone
  gone_behind before = go (dropped rule parent []) (some_of (alike []) (terms_in before))
    where
      go : (d s : Bool) → cond d (before ++ (gone ∷ [])) (cond s (added 0 [] before ++ (gone ∷ [])) (before ++ (gone ∷ []))) ≡ before ++ (gone ∷ [])
      go true s = refl
      go false true = ap (λ l. l ++ (gone ∷ [])) (added_nothing [] before)
      go false false = refl

  pub gone_drops : drop_of rule parent gone ≡ 0
  unfolding drop_of gone
  gone_drops = go (dropped rule parent [])
    where
      go : (d : Bool) → cond {A = ℕ} d 0 0 ≡ 0
      go true = refl
      go false = refl

module _ (rule : Rule) (parent : ℕ) (before : List Row) (row : Row) where
  -- The term that is put behind those before it is that of the row settled beside them.
  pub terms_behind : terms_in (put_behind rule parent before row)
      ≡ terms_in before ++ (settled rule parent (terms_in before) row.term ∷ [])
  unfolding put_behind settled stays gone terms_in
  terms_behind = go (dropped rule parent row.term) refl (some_of (alike row.term) (terms_in before)) refl
    where
      go : (d : Bool) → dropped rule parent row.term ≡ d → (s : Bool) → some_of (alike row.term) (terms_in before) ≡ s
          → terms_in (cond d (before ++ (gone ∷ [])) (cond s (added row.count row.term before ++ (gone ∷ [])) (before ++ (row ∷ []))))
          ≡ terms_in before ++ (cond (not d && not s) row.term [] ∷ [])
      go true e s f = terms_joined before (gone ∷ [])
      go false e true f =
          terms_joined (added row.count row.term before) (gone ∷ [])
          ∙ ap (λ l. l ++ ([] ∷ [])) (terms_added row.count row.term before)
      go false e false f = terms_joined before (row ∷ [])

  -- What the rows then stand for and what is dropped is what they and the row stood for.
  pub counted_behind : counted (put_behind rule parent before row) + drop_of rule parent row ≡ counted before + row.count
  unfolding put_behind drop_of gone counted sum
  counted_behind = go (dropped rule parent row.term) (some_of (alike row.term) (terms_in before)) refl
    where
      go : (d s : Bool) → some_of (alike row.term) (terms_in before) ≡ s
          → counted (cond d (before ++ (gone ∷ [])) (cond s (added row.count row.term before ++ (gone ∷ [])) (before ++ (row ∷ []))))
          + cond d row.count 0
          ≡ counted before + row.count
      go true s f = omega (arith, counted_joined before (gone ∷ []))
      go false true f =
          omega (
            arith,
            counted_joined (added row.count row.term before) (gone ∷ []),
            counted_added row.count row.term before f,
          )
      go false false f = omega (arith, counted_joined before (row ∷ []))

module _ (rule : Rule) (triple : Triple) (parent : ℕ) where
  -- What is dropped of the first row and of the others.
  pub dropped_first : (row : Row) (rows : List Row)
      → dropped_count rule triple parent (row ∷ rows) ≡ drop_of rule parent (rewritten triple parent row) + dropped_count rule triple parent rows
  unfolding dropped_count drop_of rewritten keep counted sum
  dropped_first row rows = go (dropped rule parent (rewriting triple parent row.term))
    where
      rest : List Row
      rest = keep (λ row. dropped rule parent row.term) (map (rewritten triple parent) rows)

      go : (d : Bool) → counted (cond d (rewritten triple parent row ∷ []) [] ++ rest) ≡ cond d row.count 0 + counted rest
      go true = refl
      go false = omega arith

  pub dropped_none : dropped_count rule triple parent [] ≡ 0
  unfolding dropped_count keep counted sum
  dropped_none = refl

  terms_put : (before : List Row) (row : Row)
      → terms_in (put_behind rule parent before (rewritten triple parent row))
      ≡ terms_in before ++ (reduced_row rule triple parent (terms_in before) row.term ∷ [])
  unfolding rewritten reduced_row
  terms_put before row = terms_behind rule parent before (rewritten triple parent row)

  terms_reduced : (before rows : List Row)
      → terms_in (reduced_behind rule triple parent before rows)
      ≡ terms_in before ++ renewed_after (reduced_row rule triple parent) (terms_in before) (terms_in rows)
  unfolding reduced_behind renewed_after terms_in
  terms_reduced before [] = sym (append-nil (terms_in before))
  terms_reduced before (row ∷ rows) =
      let put = put_behind rule parent before (rewritten triple parent row) in
      terms_reduced put rows
      ∙ rw (terms_put before row) (append_assoc (terms_in before) (reduced_row rule triple parent (terms_in before) row.term ∷ []) _)

  counted_reduced : (before rows : List Row)
      → counted (reduced_behind rule triple parent before rows) + dropped_count rule triple parent rows ≡ counted before + counted rows
  unfolding reduced_behind counted sum rewritten
  counted_reduced before [] = omega (arith, dropped_none)
  counted_reduced before (row ∷ rows) =
      let put = put_behind rule parent before (rewritten triple parent row) in
      omega (
        arith,
        counted_reduced put rows,
        counted_behind rule parent before (rewritten triple parent row),
        dropped_first row rows,
      )

pub counts_change_no_row : CountsChangeNoRow
unfolding counted_reduction reduction renewed terms_in
counts_change_no_row rule triple parent rows = terms_reduced rule triple parent [] rows

pub reduction_adds_up : ReductionAddsUp
unfolding counted_reduction counted sum
reduction_adds_up rule triple parent rows = omega (arith, counted_reduced rule triple parent [] rows)
