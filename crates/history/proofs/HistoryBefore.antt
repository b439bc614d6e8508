-- The merges before a step: how many they are, and what is before the next one.
use mathlib.Core.Path.{◌≡◌, ap, ◌∙◌}
use mathlib.Core.List.{List, [], ◌∷◌}
use Prim.Native.Nat.{ℕ, suc, ◌+◌, ◌-◌, ◌<◌, ◌≤◌}
use native.Mathlib.Omega.{arith}
use lib.ListN.{length, get_or, drop, length-drop, drop_of_length-le}
use Rattle.lists.proofs.Steps.{drop_step}
use Rattle.entities.specs.declared.Triple.{Triple}
use Rattle.history.specs.History.{merge_of, history_before}
use Rattle.history.proofs.Amounts.{merge_getD}

module _ (history : List Triple) where
  pub length_before : (step : ℕ) → step ≤ length history → length (history_before history step) ≡ step
  length_before step h = omega (arith, length-drop (length history - step) history)

  -- What stands before the first step, and before the next one.
  pub before_first : history_before history 0 ≡ []
  before_first = drop_of_length-le history {i = length history - 0} (omega arith)

  pub before_next : (step : ℕ) → step < length history → history_before history (step + 1) ≡ merge_of history step ∷ history_before history step
  before_next step h =
      let none : Triple = record { x = 0; y = 0; z = 0 } in
      let here : length history - (step + 1) ≡ length history - suc step = omega arith in
      let behind : length history - suc step + 1 ≡ length history - step = omega arith in
      rw (here, merge_getD history step h)
      (drop_step history (length history - suc step) none (omega arith)
      ∙ ap (λ n. get_or history (length history - suc step) none ∷ drop n history) behind)
