-- What the tables of a run answer: open entities and merges that were made stand in them.
use mathlib.Core.Path.{◌≡◌, ◌∙◌, sym}
use mathlib.Core.Bool.{true}
use mathlib.Core.List.{List}
use Prim.Native.Nat.{ℕ, ◌<◌, ◌≤◌}
use native.Mathlib.Omega.{arith}
use lib.ListN.{length, get_or, take}
use lib.Seq.{ext_get_or, get_or-take, length-take-le}
use Rattle.entities.specs.declared.Triple.{Triple}
use Rattle.terms.specs.Job.{Job}
use Rattle.history.specs.History.{merge_of, history_before, is_open}
use Rattle.history.specs.Choice.{weight_in}
use Rattle.history.specs.Drops.{drop_in, drops}
use Rattle.history.proofs.Holders.{open_below}
use Rattle.history.proofs.DropsAddUp.{drops_at, length_drops}
use Rattle.merging.specs.declared.run.Run.{Run}
use Rattle.merging.specs.code.Recorded.{merge_at}
use Rattle.merging.specs.code.State.{history_of, TableOf, HoldsIn}
use Rattle.merging.proofs.Recording.{length_recorded, recorded_merge, recorded_earlier}

module _ (entities steps : ℕ) (job : Job) (rows : List ℕ) (run : Run) (holds : HoldsIn entities steps job rows run) where
  pub open_in : (entity : ℕ) → is_open job.modes (history_of run) entity ≡ true → entity < entities
  open_in entity opens = omega (arith, open_below job.modes (history_of run) entity opens, holds.tied.within)

  module _ (step : ℕ) (made : step < length (history_of run)) where
    made_before : step < run.step
    made_before = omega (arith, length_recorded run.merges run.step)

    pub step_in : step < steps
    step_in = omega (arith, made_before, holds.inside, holds.few)

    pub merge_noted : merge_at run.merges step ≡ merge_of (history_of run) step
    merge_noted = sym (recorded_merge run.merges run.step step made_before)

    -- What a table has of the step is what its rule says of the merge.
    noted : (rule : List Triple → Triple → ℕ) (table : List ℕ) → TableOf rule run table
        → get_or table step 0 ≡ rule (history_before (history_of run) step) (merge_of (history_of run) step)
    noted rule table holds_it =
        let so_far : step ≤ run.step = omega (arith, made_before) in
        rw (recorded_earlier run.merges run.step step so_far, ← merge_noted) (holds_it step made_before)

    pub weight_noted : get_or run.weights step 0 ≡ weight_in job (history_before (history_of run) step) (merge_of (history_of run) step)
    weight_noted = noted (weight_in job) run.weights holds.weights_are

    drop_noted : get_or run.drops step 0 ≡ drop_in job (history_before (history_of run) step) (merge_of (history_of run) step)
    drop_noted = noted (drop_in job) run.drops holds.drops_are

  steps_made : length (history_of run) ≡ run.step
  steps_made = length_recorded run.merges run.step

  pub drops_length : length (take run.step run.drops) ≡ run.step
  drops_length = length-take-le run.step run.drops (omega (arith, holds.whole.drops, holds.inside, holds.few))

  -- The table of drops begins with those of the merges made.
  pub drops_noted : take run.step run.drops ≡ drops job (history_of run)
  drops_noted =
      ext_get_or 0 (take run.step run.drops) (drops job (history_of run))
      (drops_length ∙ sym (length_drops job (history_of run) ∙ steps_made))
      (λ step h.
      (let before : step < length (history_of run) = omega (arith, h, drops_length, steps_made) in
      get_or-take run.step run.drops step 0 (omega (arith, h, drops_length))
      ∙ drop_noted step before
      ∙ sym (drops_at job (history_of run) step before)))
