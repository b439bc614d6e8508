-- The rounds as a computation: they are those that `Went` describes (`outcome-right`, `one_end`).
use Rattle.std.specs.Prelude.{cond, ℕ, zero, suc, eqb, length}
use Rattle.choice.specs.Choices.{unassigned}
use Rattle.choice.specs.Choice.{Choice}
use Rattle.choice.specs.computed.Choosing.{chosen}
use Rattle.topphatt.specs.Rounds.{Rounds, Task, before, after}

-- The choice of a round.
abbrev pub choice_in : Task → Rounds → Choice
choice_in task state =
    chosen task.job.modes task.table task.heuristic state.assigned state.rows

-- One round.
unfoldable pub next : Task → Rounds → Rounds
next task state = after task (choice_in task state) state

-- Rounds, so many at most, "when no mode is unassigned" no more.
unfoldable pub rounds : Task → ℕ → Rounds → Rounds
rounds task zero state = state
rounds task (suc more) state =
    cond (eqb (length (unassigned task.job.modes state.assigned)) 0) state (rounds task more (next task state))

-- All rounds: each gives a mode to one pair at least, so there are no more than modes.
unfoldable pub ended : Task → Rounds
ended task = rounds task task.job.modes (before task.job)
