-- The run: n merges, each later one the choice of its step; its weight and its trials.
use Rattle.std.specs.Prelude.{◌≡◌, List, [], ◌∷◌, ℕ, ◌+◌, ◌-◌, ◌<◌, ◌≤◌, length}
use Rattle.lists.specs.Counting.{sum}
use Rattle.lists.specs.Ranges.{listed}
use Rattle.entities.specs.declared.Triple.{Triple}
use Rattle.terms.specs.Job.{Job}
use Rattle.history.specs.History.{merge_of, history_before}
use Rattle.history.specs.Lawful.{Pair, LawfulPairs, OneRoot}
use Rattle.history.specs.Choice.{weight_in, Chosen}

-- "Greedy weight is the sum of step weights."
unfoldable pub run_weight : Job → List Triple → ℕ
run_weight job [] = 0
run_weight job (merge ∷ history) = run_weight job history + weight_in job history merge

-- A run that went on from a history, as a reader states it: n merges in all, those of the history first, and each later one the choice of
-- its step. `trials` are the lawful ordered pairs of the later ones.
pub record RunsFrom (job : Job) (history merges : List Triple) (trials : ℕ) : Type 0 where
  pub all : length merges ≡ job.modes
  pub begins : history_before merges (length history) ≡ history
  pub goes_on : (step : ℕ) → length history ≤ step → step < job.modes → Chosen job (history_before merges step) (merge_of merges step)
  pub pairs : ℕ → List Pair
  pub pairs_are : (step : ℕ) → step < job.modes → LawfulPairs job.modes (history_before merges step) (pairs step)
  pub trials_are : trials ≡ sum (listed (λ step. length (pairs step)) (length history) (job.modes - length history))
  pub ends : OneRoot job.modes merges
