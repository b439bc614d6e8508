-- No round adds more than there are terms, and there are no more rounds than modes: the weight of an assignment is at most their product.
use mathlib.Core.Path.{◌≡◌, refl, ap}
use mathlib.Core.Bool.{Bool, true, false}
use Prim.Native.Nat.{ℕ, zero, suc, ◌+◌, ◌*◌, ◌≤◌}
use native.Mathlib.Omega.{arith}
use lib.Dec.{eqb}
use lib.ListN.{length}
use Rattle.terms.proofs.WeightBound.{weight_at_most}
use Rattle.reduction.proofs.ByPlace.{length_reduction}
use Rattle.choice.specs.Choices.{unassigned}
use Rattle.choice.specs.Choice.{Choice}
use Rattle.topphatt.specs.Rounds.{Rounds, Task, before, after}
use Rattle.topphatt.specs.computed.Rounding.{choice_in, next, rounds, ended}

module _ (task : Task) where
  -- One round.
  pub round_adds : (choice : Choice) (state : Rounds) → (after task choice state).weight ≤ state.weight + length state.rows
  unfolding after
  round_adds choice state = omega (arith, weight_at_most choice.triple state.rows)

  pub round_keeps : (choice : Choice) (state : Rounds) → length (after task choice state).rows ≡ length state.rows
  unfolding after
  round_keeps choice state = length_reduction task.job.rule choice.triple (2 * task.job.modes + 1 + choice.node) state.rows

  rounds_add : (more : ℕ) (state : Rounds) → (rounds task more state).weight ≤ state.weight + more * length state.rows
  unfolding rounds next
  rounds_add zero state = omega arith
  rounds_add (suc more) state =
      go (eqb (length (unassigned task.job.modes state.assigned)) 0) refl (rounds_add more (next task state))
    where
      go : (b : Bool) → eqb (length (unassigned task.job.modes state.assigned)) 0 ≡ b
          → (rounds task more (next task state)).weight ≤ (next task state).weight + more * length (next task state).rows
          → (rounds task (suc more) state).weight ≤ state.weight + suc more * length state.rows
      go true q on = rw q (omega arith)
      go false q on =
          let same = ap (λ n. more * n) (round_keeps (choice_in task state) state) in
          rw q (omega (arith, round_adds (choice_in task state) state, same))

  pub weight_bounded : (ended task).weight ≤ task.job.modes * length task.job.terms
  unfolding ended before
  weight_bounded = omega (arith, rounds_add task.job.modes (before task.job))
