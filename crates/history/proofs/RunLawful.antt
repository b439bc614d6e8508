-- A run from a lawful history is lawful: each step has a choice, and the choice is lawful.
use mathlib.Core.Path.{◌≡◌, ◌∙◌}
use mathlib.Core.List.{List, ◌∷◌}
use Prim.Native.Nat.{ℕ, zero, suc, ◌+◌, ◌-◌, ◌<◌, ◌≤◌}
use native.Mathlib.Nat.{add-zero}
use native.Mathlib.Omega.{arith}
use lib.ListN.{length}
use Rattle.entities.specs.declared.Triple.{Triple}
use Rattle.terms.specs.Job.{Job}
use Rattle.history.specs.Lawful.{Lawful, LawfulHistory}
use Rattle.history.specs.computed.Choosing.{chosen}
use Rattle.history.specs.computed.Greedy.{greedy, finished}
use Rattle.history.proofs.PairCount.{some_pair}
use Rattle.history.proofs.ChosenRight.{chosen_right}

module _ (job : Job) where
  pub chosen_lawful : (history : List Triple) → LawfulHistory job.modes history → length history < job.modes
      → Lawful job.modes history (chosen job history)
  chosen_lawful history lawful h =
      (chosen_right job history lawful (some_pair job.modes history lawful (job.modes - length history) (omega arith) (omega arith))).lawful

  pub greedy_lawful : (steps : ℕ) (history : List Triple) → LawfulHistory job.modes history → length history + steps ≤ job.modes
      → LawfulHistory job.modes (greedy job steps history)
  unfolding greedy
  greedy_lawful zero history lawful h = lawful
  greedy_lawful (suc steps) history lawful h =
      greedy_lawful steps (chosen job history ∷ history) (chosen_lawful history lawful (omega arith), lawful) (omega arith)

  pub greedy_length : (steps : ℕ) (history : List Triple) → length (greedy job steps history) ≡ length history + steps
  unfolding greedy
  greedy_length zero history = rw (add-zero (length history))
  greedy_length (suc steps) history = greedy_length steps (chosen job history ∷ history) ∙ omega arith

  module _ (history : List Triple) (lawful : LawfulHistory job.modes history) (within : length history ≤ job.modes) where
    pub finished_lawful : LawfulHistory job.modes (finished job history)
    unfolding finished
    finished_lawful = greedy_lawful (job.modes - length history) history lawful (omega arith)

    pub finished_length : length (finished job history) ≡ job.modes
    unfolding finished
    finished_length = greedy_length (job.modes - length history) history ∙ omega arith
