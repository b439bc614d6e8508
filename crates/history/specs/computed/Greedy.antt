-- The greedy steps from a history as a computation: they are the run that `RunsFrom` describes (`runs_on`).
use Rattle.std.specs.Prelude.{List, ◌∷◌, ℕ, zero, suc, ◌+◌, ◌-◌, length}
use Rattle.entities.specs.declared.Triple.{Triple}
use Rattle.terms.specs.Job.{Job}
use Rattle.history.specs.computed.Pairs.{lawful_pairs}
use Rattle.history.specs.computed.Choosing.{chosen}

-- So many greedy steps from a history.
unfoldable pub greedy : Job → ℕ → List Triple → List Triple
greedy job zero history = history
greedy job (suc steps) history = greedy job steps (chosen job history ∷ history)

-- The history at the end of a run that goes on from here: n merges in all.
unfoldable pub finished : Job → List Triple → List Triple
finished job history = greedy job (job.modes - length history) history

-- "Trials of a step are its lawful ordered pairs"; the trials of so many greedy steps from a history.
unfoldable pub trials : Job → ℕ → List Triple → ℕ
trials job zero history = 0
trials job (suc steps) history =
    length (lawful_pairs job.modes history) + trials job steps (chosen job history ∷ history)
