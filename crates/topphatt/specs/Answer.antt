-- "The answer is the table and the sum of chosen weights"; "assign continues 17, 2, 3, 4, 5"; 20 is "checked after 1".
use Rattle.std.specs.Prelude.{cond, not, ◌&&◌, List, map, ℕ, ◌*◌, leb, length, Err, Ok, Result}
use Rattle.refusal.specs.declared.Refusal.{Refusal}
use Rattle.refusal.specs.declared.Refusal.TheVariants.{Modes, Room, Heuristic, Rule as NoRule}
use Rattle.entities.specs.Codes.{child_code}
use Rattle.entities.specs.Limits.{work_width}
use Rattle.terms.specs.Rules.{rule_good, rule_of}
use Rattle.terms.specs.Job.{job_of}
use Rattle.terms.specs.Good.{modes_good, checked}
use Rattle.tree.specs.Check.{tree_checked}
use Rattle.slots.specs.Slots.{slot_of, stands_as}
use Rattle.topphatt.specs.Rounds.{Task}
use Rattle.topphatt.specs.computed.Rounding.{ended}

-- The codes of the slots, where the given tree has its own.
unfoldable pub answer_table : ℕ → List ℕ → List ℕ → List ℕ
answer_table modes assigned table = map (λ given. child_code modes (2 * modes) (stands_as modes (slot_of modes assigned given))) table

-- What an assignment comes to: so many rows, the weight and the table; or a refusal.
pub data Outcome : Type 0 where
  done : ℕ → ℕ → List ℕ → Outcome
  refused : Refusal → Outcome

-- What an assignment is asked for: the modes, the rule's number, the tree, the heuristic and the terms' numbers.
pub record Asked : Type 0 where
  pub modes : ℕ
  pub rule : ℕ
  pub tree : List ℕ
  pub heuristic : ℕ
  pub numbers : List ℕ

abbrev pub asked : ℕ → ℕ → List ℕ → ℕ → List ℕ → Asked
asked modes rule tree heuristic numbers = record { modes = modes; rule = rule; tree = tree; heuristic = heuristic; numbers = numbers }

-- What is to be done, where the terms are so many good rows.
abbrev pub task_of : Asked → ℕ → Task
task_of call count =
    record { job = job_of call.modes (rule_of call.rule) count call.numbers; table = call.tree; heuristic = call.heuristic }

-- What a call has room for: the most modes, and how many numbers are lent for work and table.
pub record Rooms : Type 0 where
  pub modes : ℕ
  pub work : ℕ
  pub table : ℕ

-- What is done: the rounds, and their answer.
unfoldable pub done_by : Task → Outcome
done_by task =
    done (length task.job.terms) (ended task).weight (answer_table task.job.modes (ended task).assigned task.table)

-- 5: "any buffer below its room": "assignment tables 3n"; document 02: "5 now asks for 9T work numbers, of assign too".
unfoldable pub with_room : Rooms → Task → Outcome
with_room rooms task =
    cond (not (leb (work_width * length task.job.terms) rooms.work && leb (3 * task.job.modes) rooms.table)) (refused Room) (done_by task)

-- 2, 3, 4 of the terms.
unfoldable pub with_terms : Rooms → Asked → Result ℕ Refusal → Outcome
with_terms rooms call (Ok count) = with_room rooms (task_of call count)
with_terms rooms call (Err refusal) = refused refusal

-- 13 to 16 of the tree, then 17: "heuristic not 0, 1, 2".
unfoldable pub with_tree : Rooms → Asked → Result (Unit {0}) Refusal → Outcome
with_tree rooms call (Ok tt) =
    cond (not (leb call.heuristic 2)) (refused Heuristic) (with_terms rooms call (checked call.modes call.numbers))
with_tree rooms call (Err refusal) = refused refusal

-- The meaning of `assign`: 1, then 20, then the rest.
unfoldable pub outcome : Rooms → Asked → Outcome
outcome rooms call =
    cond (not (modes_good rooms.modes call.modes)) (refused Modes)
    (cond (not (rule_good call.rule)) (refused NoRule) (with_tree rooms call (tree_checked rooms.modes call.modes call.tree)))
