-- What the choice finds in a state is the chosen triple with its weight, ready to be merged.
use mathlib.Core.Path.{◌≡◌, refl, ap, ◌∙◌, fun_ext}
use mathlib.Core.List.{List, [], ◌∷◌}
use Prim.Native.Nat.{ℕ, ◌+◌, ◌-◌, ◌*◌, ◌<◌, ◌≤◌}
use native.Mathlib.Omega.{arith}
use lib.ListN.{length, get_or, length-map}
use Rattle.lists.specs.Least.{least_of}
use Rattle.entities.specs.declared.Triple.{Triple}
use Rattle.terms.specs.Rows.{terms_of}
use Rattle.terms.specs.Job.{Job}
use Rattle.terms.specs.Weight.{weight_of}
use Rattle.terms.proofs.WeightBound.{weight_at_most}
use Rattle.terms.proofs.RowSteps.{length_terms}
use Rattle.reduction.specs.Reduction.{live}
use Rattle.reduction.specs.code.Promises.{LiveRows}
use Rattle.reduction.proofs.AsTold.{live_weight}
use Rattle.history.specs.History.{next_parent, rows_after}
use Rattle.history.specs.Choice.{weight_in}
use Rattle.history.specs.computed.Pairs.{named, lawful_pairs}
use Rattle.history.specs.computed.Choosing.{candidates, chosen}
use Rattle.history.proofs.Holders.{end_within}
use Rattle.history.proofs.PairCount.{some_pair}
use Rattle.history.proofs.RunLawful.{chosen_lawful}
use Rattle.choosing.specs.declared.choice.Best.{Best}
use Rattle.choosing.specs.code.Couples.{weight_here, nothing, weighed, seek}
use Rattle.choosing.proofs.SeekSteps.{sought}
use Rattle.merging.specs.declared.run.Run.{Run}
use Rattle.merging.specs.code.State.{history_of, HoldsIn, ReadyIn}
use Rattle.merging.proofs.RowsHeld.{terms_are}
use Rattle.merging.proofs.StateMerged.{parent_is}
use Rattle.merging.proofs.Recording.{length_recorded}

module _ (entities steps : ℕ) (job : Job) (rows : List ℕ) (run : Run) (holds : HoldsIn entities steps job rows run) where
  -- The z-ends in the table are leaves.
  pub ends_low : (entity : ℕ) → entity < 2 * run.modes + 1 + run.step → get_or run.tables.ends entity 0 ≤ 2 * job.modes
  ends_low entity h =
      let below : entity < next_parent job.modes (history_of run) = rw (parent_is job.modes run holds.modes_are) at h in
      rw (holds.tied.ends_are entity (omega (arith, holds.tied.within)))
      (end_within job.modes (history_of run) holds.lawful entity below)

  module _ (gathered : List ℕ) (kept : ℕ) (there : LiveRows run.count rows gathered kept) where
    -- A triple weighs in the rows that are there what it weighs in all.
    weighs_here : weight_here kept gathered ≡ weight_in job (history_of run)
    unfolding weight_here weight_in
    weighs_here =
        let all = rows_after job (history_of run) in
        ap (λ l. λ triple. weight_of triple l) (there.terms ∙ ap live (terms_are entities steps job rows run holds)) ∙ fun_ext (λ triple. live_weight triple all)

    weight_low : (triple : Triple) → weight_here kept gathered triple < (nothing kept).weight
    unfolding weight_here nothing
    weight_low triple = omega (arith, weight_at_most triple (terms_of 8 kept gathered), length_terms 8 kept gathered)

    found : (l : List Triple) → 0 < length l
        → seek (weight_here kept gathered) (nothing kept) l
        ≡ weighed (weight_in job (history_of run)) (least_of (weight_in job (history_of run)) (record { x = 0; y = 0; z = 0 }) l)
    unfolding least_of
    found [] h = absurd (omega arith)
    found (first ∷ rest) h =
        sought (weight_here kept gathered) (nothing kept) first rest (weight_low first) ∙ rw weighs_here

    module _ (left : run.step < job.modes) where
      merges_left : length (history_of run) < job.modes
      merges_left = rw (length_recorded run.merges run.step) left

      candidates_some : 0 < length (candidates job.modes (history_of run))
      unfolding candidates
      candidates_some =
          rw (length-map (lawful_pairs job.modes (history_of run)) (named job.modes (history_of run)))
          (some_pair job.modes (history_of run) holds.lawful (job.modes - length (history_of run)) (omega (arith, merges_left)) (omega (arith, merges_left)))

      pub best_is : seek (weight_here kept gathered) (nothing kept) (candidates job.modes (history_of run))
          ≡ weighed (weight_in job (history_of run)) (chosen job (history_of run))
      unfolding chosen
      best_is = found (candidates job.modes (history_of run)) candidates_some

      pub ready_chosen : (best : Best) → best ≡ seek (weight_here kept gathered) (nothing kept) (candidates job.modes (history_of run))
          → ReadyIn entities steps job rows run best.triple best.weight
      unfolding weighed
      ready_chosen best e =
          rw (e ∙ best_is)
          (record {
            holds = holds;
            left = left;
            lawful = chosen_lawful job (history_of run) holds.lawful merges_left;
            weight_is = refl;
          })
