-- A run has as many rows as its job has terms, all along, and no triple weighs more.
use mathlib.Core.Path.{◌≡◌, refl, ◌∙◌}
use mathlib.Core.List.{List, [], ◌∷◌}
use Prim.Native.Nat.{◌≤◌}
use native.Mathlib.Omega.{arith}
use lib.ListN.{length}
use Rattle.entities.specs.declared.Triple.{Triple}
use Rattle.terms.specs.Job.{Job}
use Rattle.terms.proofs.WeightBound.{weight_at_most}
use Rattle.reduction.proofs.ByPlace.{length_reduction}
use Rattle.history.specs.History.{rows_after}
use Rattle.history.specs.Choice.{weight_in}

module _ (job : Job) where
  pub length_rows_after : (history : List Triple) → length (rows_after job history) ≡ length job.terms
  unfolding rows_after
  length_rows_after [] = refl
  length_rows_after (merge ∷ history) = length_reduction job.rule merge _ (rows_after job history) ∙ length_rows_after history

  pub weight_in_most : (history : List Triple) (triple : Triple) → weight_in job history triple ≤ length job.terms
  unfolding weight_in
  weight_in_most history triple = omega (arith, weight_at_most triple (rows_after job history), length_rows_after history)
