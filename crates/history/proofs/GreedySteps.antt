-- The merges of greedy steps one by one: what stands before each, and that it is the choice there.
use mathlib.Core.Path.{◌≡◌, refl, ap, ◌∙◌, sym}
use mathlib.Core.List.{List, ◌∷◌}
use Prim.Native.Nat.{ℕ, zero, suc, ◌+◌, ◌-◌, ◌<◌, ◌≤◌}
use native.Mathlib.Nat.{zero-add, add-zero, add-suc}
use native.Mathlib.Omega.{arith}
use lib.ListN.{length, get_or, drop}
use lib.Seq.{get_or-drop}
use Rattle.entities.specs.declared.Triple.{Triple}
use Rattle.terms.specs.Job.{Job}
use Rattle.history.specs.History.{merge_of, history_before}
use Rattle.history.specs.computed.Choosing.{chosen}
use Rattle.history.specs.computed.Greedy.{greedy}
use Rattle.history.proofs.Amounts.{merge_getD}
use Rattle.history.proofs.RunLawful.{greedy_length}

module _ (job : Job) where
  pub greedy_on : (steps more : ℕ) (history : List Triple) → greedy job more (greedy job steps history) ≡ greedy job (steps + more) history
  unfolding greedy
  greedy_on zero more history = rw (zero-add more)
  greedy_on (suc steps) more history =
      let e : suc steps + more ≡ suc (steps + more) = omega arith in
      rw e (greedy_on steps more (chosen job history ∷ history))

  -- One step more, at the end.
  pub greedy_more : (steps : ℕ) (history : List Triple)
      → greedy job (suc steps) history ≡ chosen job (greedy job steps history) ∷ greedy job steps history
  unfolding greedy
  greedy_more zero history = refl
  greedy_more (suc steps) history = greedy_more steps (chosen job history ∷ history)

  -- Without the last steps.
  fewer_steps : (steps more : ℕ) (history : List Triple) → drop more (greedy job (steps + more) history) ≡ greedy job steps history
  fewer_steps steps zero history = rw (add-zero steps)
  fewer_steps steps (suc more) history =
      rw (add-suc steps more, greedy_more (steps + more) history) (fewer_steps steps more history)

  module _ (steps : ℕ) (history : List Triple) (i : ℕ) where
    -- What stood before a step.
    pub before_step : i ≤ steps → history_before (greedy job steps history) (length history + i) ≡ greedy job i history
    before_step h =
        let all : length (greedy job steps history) - (length history + i) ≡ steps - i = omega (arith, greedy_length job steps history) in
        let more : i + (steps - i) ≡ steps = omega arith in
        ap (λ n. drop n (greedy job steps history)) all
        ∙ ap (λ n. drop (steps - i) (greedy job n history)) (sym more)
        ∙ fewer_steps i (steps - i) history

    -- The step itself.
    pub step_chosen : i < steps → merge_of (greedy job steps history) (length history + i) ≡ chosen job (greedy job i history)
    step_chosen h =
        let none : Triple = record { x = 0; y = 0; z = 0 } in
        let all : length (greedy job steps history) - suc (length history + i) ≡ steps - suc i + 0 = omega (arith, greedy_length job steps history) in
        let more : suc i + (steps - suc i) ≡ steps = omega arith in
        merge_getD (greedy job steps history) (length history + i) (omega (arith, greedy_length job steps history))
        ∙ ap (λ n. get_or (greedy job steps history) n none) all
        ∙ sym (get_or-drop (steps - suc i) (greedy job steps history) 0 none)
        ∙ ap (λ n. get_or (drop (steps - suc i) (greedy job n history)) 0 none) (sym more)
        ∙ ap (λ l. get_or l 0 none) (fewer_steps (suc i) (steps - suc i) history ∙ greedy_more i history)
