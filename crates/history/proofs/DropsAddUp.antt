-- The rows' counts along a history: they change no row, they and the drops so far add up to T, and a step's drops stand at its place.
use mathlib.Core.Path.{◌≡◌, refl, ap, ◌∙◌}
use mathlib.Core.List.{List, [], ◌∷◌, ◌++◌, map-id}
use mathlib.Core.Logic.{⊎_elim}
use Prim.Native.Nat.{ℕ, zero, suc, ◌+◌, ◌-◌, ◌<◌}
use native.Mathlib.Numerals.{add-one}
use native.Mathlib.Omega.{arith}
use lib.ListN.{length, get_or, replicate, length-append, replicate-append-replicate, get_or-append}
use lib.Seq.{get_or-append_seam}
use Rattle.lists.specs.Counting.{sum}
use Rattle.lists.specs.Members.{keep}
use Rattle.lists.proofs.Sums.{sum_append}
use Rattle.lists.proofs.Tests.{same_or_not}
use Rattle.entities.specs.declared.Triple.{Triple}
use Rattle.terms.specs.declared.rules.Rule.TheVariants.{Keep}
use Rattle.terms.specs.Counted.{Row, counted}
use Rattle.terms.specs.Job.{Job}
use Rattle.terms.proofs.CountedRows.{terms_once, counted_once}
use Rattle.reduction.specs.Reduction.{dropped, reduction}
use Rattle.reduction.specs.Counts.{dropped_count}
use Rattle.reduction.proofs.CountedReduction.{counts_change_no_row, reduction_adds_up}
use Rattle.history.specs.History.{merge_of, history_before, next_parent, rows_after}
use Rattle.history.specs.Drops.{counted_after, drop_in, drops, SameRows, AddUp, NoneIsDropped}
use Rattle.history.proofs.Amounts.{newest_merge, older_merge}

pub same_rows : SameRows
unfolding counted_after rows_after
same_rows job [] = terms_once job.terms
same_rows job (merge ∷ history) =
    let parent = next_parent job.modes history in
    counts_change_no_row job.rule merge parent (counted_after job history)
    ∙ ap (reduction job.rule merge parent) (same_rows job history)

-- One number more.
sum_more : (l : List ℕ) (more : ℕ) → sum (l ++ (more ∷ [])) ≡ sum l + more
unfolding sum
sum_more l more = omega (arith, simp map-id at (sum_append (λ v. v) l (more ∷ [])))

pub add_up : AddUp
unfolding counted_after drops drop_in sum
add_up job [] = omega (arith, counted_once job.terms)
add_up job (merge ∷ history) =
    omega (
      arith,
      add_up job history,
      sum_more (drops job history) (drop_in job history merge),
      reduction_adds_up job.rule merge (next_parent job.modes history) (counted_after job history),
    )

module _ (job : Job) where
  pub length_drops : (history : List Triple) → length (drops job history) ≡ length history
  unfolding drops
  length_drops [] = refl
  length_drops (merge ∷ history) =
      omega (arith, length-append (drops job history) (drop_in job history merge ∷ []), length_drops history)

  -- What the newest merge drops, and what an older one does.
  module _ (merge : Triple) (history : List Triple) (step : ℕ) where
    newest_drop : step ≡ length history
        → get_or (drops job (merge ∷ history)) step 0
        ≡ drop_in job (history_before (merge ∷ history) step) (merge_of (merge ∷ history) step)
    unfolding drops
    newest_drop e =
        let place : step ≡ length (drops job history) = omega (arith, length_drops history) in
        let one : suc (length history) - step ≡ 1 = omega arith in
        rw (newest_merge merge history step e, one, place) (get_or-append_seam (drops job history) (drop_in job history merge) [] 0)

    older_drop : step < length history
        → get_or (drops job history) step 0 ≡ drop_in job (history_before history step) (merge_of history step)
        → get_or (drops job (merge ∷ history)) step 0
        ≡ drop_in job (history_before (merge ∷ history) step) (merge_of (merge ∷ history) step)
    unfolding drops
    older_drop h before =
        let behind : suc (length history) - step ≡ suc (length history - step) = omega arith in
        rw (older_merge merge history step h, behind)
        (get_or-append (drops job history) (drop_in job history merge ∷ []) 0 step (omega (arith, length_drops history)) ∙ before)

  pub drops_at : (history : List Triple) (step : ℕ) → step < length history
      → get_or (drops job history) step 0 ≡ drop_in job (history_before history step) (merge_of history step)
  drops_at [] step h = absurd (omega arith)
  drops_at (merge ∷ history) step h =
      ⊎_elim
      (λ e. newest_drop merge history step e)
      (λ other. (let l : step < length history = omega arith in older_drop merge history step l (drops_at history step l)))
      (same_or_not step (length history))

-- By the keeping rule a merge drops nothing.
keeps_all : (merge : Triple) (parent : ℕ) (rows : List Row) → dropped_count Keep merge parent rows ≡ 0
unfolding dropped_count dropped keep counted sum
keeps_all merge parent [] = refl
keeps_all merge parent (row ∷ rows) = keeps_all merge parent rows

module _ (job : Job) (rule : job.rule ≡ Keep) where
  drop_is_none : (history : List Triple) (merge : Triple) → drop_in job history merge ≡ 0
  unfolding drop_in
  drop_is_none history merge =
      let parent = next_parent job.modes history in
      ap (λ kept. dropped_count kept merge parent (counted_after job history)) rule ∙ keeps_all merge parent (counted_after job history)

  drops_are_none : (history : List Triple) → drops job history ≡ replicate (length history) 0
  unfolding drops
  drops_are_none [] = refl
  drops_are_none (merge ∷ history) =
      rw (drops_are_none history, drop_is_none history merge)
      (replicate-append-replicate (length history) 1 0 ∙ ap (λ n. replicate n 0) (add-one (length history)))

sum_of_none : (count : ℕ) → sum (replicate count 0) ≡ 0
unfolding sum
sum_of_none zero = refl
sum_of_none (suc count) = omega (arith, sum_of_none count)

pub none_is_dropped : NoneIsDropped
none_is_dropped job history rule =
    let none = drops_are_none job rule history in
    (none, omega (arith, add_up job history, ap sum none, sum_of_none (length history)))
