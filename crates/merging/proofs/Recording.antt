-- The history that the table holds, when one more merge is written down.
use mathlib.Core.Path.{◌≡◌, refl, ap, ◌∙◌}
use mathlib.Core.List.{List, ◌∷◌}
use mathlib.Core.Logic.{⊎_elim}
use Prim.Native.Nat.{ℕ, zero, suc, ◌+◌, ◌-◌, ◌<◌, ◌≤◌}
use native.Mathlib.Numerals.{add-one}
use native.Mathlib.Omega.{arith}
use lib.ListN.{length, set}
use lib.Seq.{get_or-set_same, get_or-set_other}
use Rattle.lists.proofs.Tests.{same_or_not}
use Rattle.entities.specs.declared.Triple.{Triple}
use Rattle.history.specs.History.{merge_of, history_before}
use Rattle.history.proofs.Amounts.{newest_merge, older_merge}
use Rattle.merging.specs.code.Recorded.{merge_at, recorded}

pub length_recorded : (merges : List Triple) (step : ℕ) → length (recorded merges step) ≡ step
unfolding recorded
length_recorded merges zero = refl
length_recorded merges (suc step) = ap suc (length_recorded merges step)

pub recorded_merge : (merges : List Triple) (steps label : ℕ) → label < steps → merge_of (recorded merges steps) label ≡ merge_at merges label
unfolding recorded
recorded_merge merges zero label h = absurd (omega arith)
recorded_merge merges (suc steps) label h =
    let count = length_recorded merges steps in
    let older = recorded merges steps in
    let merge = merge_at merges steps in
    ⊎_elim
    (λ e. newest_merge merge older label (omega arith) ∙ ap (merge_at merges) (rw e refl))
    (λ other. older_merge merge older label (omega arith) ∙ recorded_merge merges steps label (omega arith))
    (same_or_not label steps)

-- The merges before a step are the first so many.
pub recorded_earlier : (merges : List Triple) (steps step : ℕ) → step ≤ steps
    → history_before (recorded merges steps) step ≡ recorded merges step
unfolding recorded
recorded_earlier merges zero step h = let e : step ≡ 0 = omega arith in rw e
recorded_earlier merges (suc steps) step h =
    let older = recorded merges steps in
    let count = length_recorded merges steps in
    ⊎_elim
    (λ e. rw e (let none_later : suc (length older) - suc steps ≡ 0 = omega arith in rw none_later))
    (λ other.
    let one_later : suc (length older) - step ≡ suc (length older - step) = omega arith in
    rw one_later (recorded_earlier merges steps step (omega arith)))
    (same_or_not step (suc steps))

module _ (merges : List Triple) (triple : Triple) (place : ℕ) where
  -- Writing at a place leaves the merges before it.
  pub merge_before : (step : ℕ) → step < place → merge_at (set merges place triple) step ≡ merge_at merges step
  unfolding merge_at
  merge_before step h = get_or-set_other merges place step triple _ (omega arith)

  pub recorded_before : (step : ℕ) → step ≤ place → recorded (set merges place triple) step ≡ recorded merges step
  unfolding recorded
  recorded_before zero h = refl
  recorded_before (suc step) h = rw (merge_before step (omega arith), recorded_before step (omega arith))

  module _ (inside : place < length merges) where
    pub merge_here : merge_at (set merges place triple) place ≡ triple
    unfolding merge_at
    merge_here = get_or-set_same merges place triple _ inside

    pub recorded_next : recorded (set merges place triple) (place + 1) ≡ triple ∷ recorded merges place
    unfolding recorded
    recorded_next = rw (add-one place, merge_here, recorded_before place (omega arith))
