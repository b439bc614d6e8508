-- What holds from round to round, and what the functions of the rounds promise one another.
use Rattle.std.specs.Prelude.{◌≡◌, List, ℕ, ◌+◌, ◌*◌, ◌≤◌, ◌<◌, length, drop}
use Rattle.lists.specs.Written.{written_at}
use Rattle.entities.specs.Limits.{most_terms, row_width, work_width}
use Rattle.terms.specs.Rules.{rule_number}
use Rattle.terms.specs.Rows.{terms_of}
use Rattle.terms.specs.code.Held.{Held, Worked}
use Rattle.terms.specs.Weight.{weight_of}
use Rattle.slots.specs.Heuristics.{heuristic_number}
use Rattle.choice.specs.declared.Selection.{Selection}
use Rattle.choice.specs.Choice.{Choice}
use Rattle.choice.specs.computed.Choosing.{chosen}
use Rattle.choice.specs.code.Seeking.{choice_of}
use Rattle.topphatt.specs.declared.task.Task.{Task as GoodTask}
use Rattle.topphatt.specs.Rounds.{Rounds, Task, fixed_by}
use Rattle.topphatt.specs.computed.Rounding.{next, ended}
use Rattle.topphatt.specs.Answer.{answer_table, Asked, asked}

-- What is to be done over these terms.
abbrev pub task_with : GoodTask → List (List ℕ) → Task
task_with task terms = record {
  job = record { modes = task.modes; rule = task.rule; terms = terms };
  table = task.tree.now;
  heuristic = heuristic_number task.heuristic;
}

-- What the rounds come to, over the rows that stand at first.
abbrev pub ended_over : GoodTask → ℕ → List ℕ → Rounds
ended_over task count rows = ended (task_with task (terms_of work_width count rows))

-- What was asked for, with these numbers for the terms.
abbrev pub asked_by : GoodTask → List ℕ → Asked
asked_by task numbers = asked task.modes (rule_number task.rule) task.tree.now (heuristic_number task.heuristic) numbers

-- What the rounds have come to.
unfoldable pub state_of : ℕ → List ℕ → List ℕ → ℕ → Rounds
state_of count rows assigned weight = record { assigned = assigned; rows = terms_of work_width count rows; weight = weight }

-- What holds before and after each round; the rows are work rows.
pub record Going (modes : ℕ) (rows : List ℕ) (count : ℕ) (assigned : List ℕ) : Type 0 where
  pub pairs : length assigned ≡ modes
  pub fits : count ≤ most_terms
  pub worked : Worked count rows

-- What a choice is sought among: the first `count` of the gathered rows.
pub record Among (modes : ℕ) (rows : List ℕ) (count : ℕ) (assigned : List ℕ) : Type 0 where
  pub pairs : length assigned ≡ modes
  pub fits : count ≤ most_terms
  pub held : Held row_width count rows

-- The choice of a round was found, and its weight, where there is a choice.
pub record Chose (task : GoodTask) (rows : List ℕ) (count : ℕ) (assigned : List ℕ) (r : Selection) : Type 0 where
  pub right : choice_of r ≡ chosen task.modes task.tree.now (heuristic_number task.heuristic) assigned (terms_of row_width count rows)
  pub within : r.min_parent < task.modes
  pub weighs : r.min_weight ≤ count → r.min_weight ≡ weight_of r.leaf_indices (terms_of row_width count rows)

-- A choice's leaves were fixed.
pub record Fixed (modes : ℕ) (table : List ℕ) (choice : Choice) (assigned after : List ℕ) : Type 0 where
  pub pairs : length after ≡ modes
  pub right : after ≡ fixed_by modes table choice assigned

-- A round was made, its choice of this weight; whatever the terms were at first and what the rounds before it weighed, and the numbers
-- behind the rows are as they were.
pub record RoundMade (task : GoodTask) (rows : List ℕ) (count : ℕ) (assigned now_rows now_assigned : List ℕ) (r : ℕ) : Type 0 where
  pub right : (terms : List (List ℕ)) (weight : ℕ)
      → state_of count now_rows now_assigned (weight + r) ≡ next (task_with task terms) (state_of count rows assigned weight)
  pub light : r ≤ most_terms
  pub going : Going task.modes now_rows count now_assigned
  pub rest : drop (work_width * count) now_rows ≡ drop (work_width * count) rows

-- All rounds were made.
pub record Ended (task : GoodTask) (count : ℕ) (rows now_rows assigned : List ℕ) (r : ℕ) : Type 0 where
  pub weight_is : r ≡ (ended_over task count rows).weight
  pub assigned_is : assigned ≡ (ended_over task count rows).assigned
  pub pairs : length assigned ≡ task.modes
  pub rest : drop (work_width * count) now_rows ≡ drop (work_width * count) rows

-- All rounds were made, and the table written.
pub record Tabled (task : GoodTask) (count : ℕ) (rows table now_rows now_table : List ℕ) (r : ℕ) : Type 0 where
  pub weight_is : r ≡ (ended_over task count rows).weight
  pub table_is : now_table ≡ written_at 0 (answer_table task.modes (ended_over task count rows).assigned task.tree.now) table
  pub rest : drop (work_width * count) now_rows ≡ drop (work_width * count) rows
