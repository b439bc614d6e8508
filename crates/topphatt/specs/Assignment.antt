-- What a reader may believe of the rounds and of the answer, on an accepted tree.
use Rattle.std.specs.Prelude.{◌≡◌, true, false, not, List, ℕ, ◌*◌, ◌<◌, ◌≤◌, length, get_or, Ok}
use Rattle.lists.specs.Counting.{occurrences}
use Rattle.lists.specs.Members.{keep}
use Rattle.entities.specs.Codes.{absent}
use Rattle.tree.specs.Check.{tree_checked}
use Rattle.slots.specs.Slots.{slot, unfixed}
use Rattle.slots.specs.Nodes.{complete, remaining}
use Rattle.choice.specs.Choices.{unassigned}
use Rattle.choice.specs.Choice.{Choice, candidates, Chosen}
use Rattle.topphatt.specs.Rounds.{Rounds, Task, before, after}
use Rattle.topphatt.specs.Answer.{done, answer_table, Asked, task_of, Rooms, outcome}

-- Each pair has a mode or none, which is n; no two pairs have the same mode.
pub record Fair (modes : ℕ) (assigned : List ℕ) : Type 0 where
  pub whole : length assigned ≡ modes
  pub known : (k : ℕ) → k < modes → get_or assigned k modes ≤ modes
  pub once : (mode : ℕ) → mode < modes → occurrences mode assigned ≤ 1

-- Pairs were given modes: fewer have none, none lost or changed its mode, and no two have the same.
pub record Given (modes : ℕ) (assigned now : List ℕ) : Type 0 where
  pub fair : Fair modes now
  pub fewer : occurrences modes now < occurrences modes assigned
  pub stays : (k : ℕ) → get_or assigned k modes < modes → get_or now k modes ≡ get_or assigned k modes

-- The choice of a round, as a reader states it.
abbrev pub ChosenIn : Task → Rounds → Choice → Type 0
ChosenIn task state choice =
    Chosen task.job.modes task.table task.heuristic state.assigned state.rows choice

-- A round has a choice, and takes the one that document 01 describes; of its node's X and Y slots both are unfixed or neither is; it gives
-- modes to pairs; its node is then complete, and the complete nodes leave the round list.
pub record RoundGoes (task : Task) (state : Rounds) (choice : Choice) : Type 0 where
  pub some_choice : 0 < length (candidates task.job.modes task.table task.heuristic state.assigned)
  pub right : ChosenIn task state choice
  pub together : unfixed (slot task.job.modes task.table state.assigned choice.node 0)
      ≡ unfixed (slot task.job.modes task.table state.assigned choice.node 1)
  pub gives : Given task.job.modes state.assigned (after task choice state).assigned
  pub done : complete task.job.modes task.table (after task choice state).assigned choice.node ≡ true
  pub leave : remaining task.job.modes task.table (after task choice state).assigned
      ≡ keep (λ node. not (complete task.job.modes task.table (after task choice state).assigned node))
      (remaining task.job.modes task.table state.assigned)

-- The rounds from one state to another, as document 01 tells them: while a mode is unassigned, a round that goes as it describes.
pub data Went (task : Task) : Rounds → Rounds → Type 0 where
  no_more : {state end : Rounds} → length (unassigned task.job.modes state.assigned) ≡ 0 → end ≡ state → Went task state end
  one_more : {state end : Rounds} → 0 < length (unassigned task.job.modes state.assigned) → (choice : Choice)
      → RoundGoes task state choice → Went task (after task choice state) end → Went task state end

-- No mode is unassigned: every pair has a mode, each mode is one pair's, and no slot is unfixed.
pub record AllAssigned (modes : ℕ) (table assigned : List ℕ) : Type 0 where
  pub none_left : length (unassigned modes assigned) ≡ 0
  pub whole : length assigned ≡ modes
  pub inside : (k : ℕ) → k < modes → get_or assigned k modes < modes
  pub each_once : (mode : ℕ) → mode < modes → occurrences mode assigned ≡ 1
  pub none_unfixed : (node edge : ℕ) → unfixed (slot modes table assigned node edge) ≡ false

-- The answer has every node and the absent child where the given tree has them, and each leaf once.
pub record SameShape (modes : ℕ) (table answer : List ℕ) : Type 0 where
  pub whole : length answer ≡ length table
  pub node_stays : (place : ℕ) → place < length table → get_or table place absent < modes → get_or answer place absent ≡ get_or table place absent
  pub absent_stays : (place : ℕ) → place < length table → get_or table place absent ≡ absent → get_or answer place absent ≡ absent
  pub leaf_once : (code : ℕ) → modes ≤ code → code < 3 * modes → occurrences code answer ≡ 1

-- What a call that is done has computed: the sum of the chosen weights of the rounds that document 01 tells, and their tree, which is accepted.
pub record AnswerRight (most : ℕ) (task : Task) (weight : ℕ) (answer : List ℕ) : Type 0 where
  pub end : Rounds
  pub went : Went task (before task.job) end
  pub weight_is : weight ≡ end.weight
  pub answer_is : answer ≡ answer_table task.job.modes end.assigned task.table
  pub all : AllAssigned task.job.modes task.table end.assigned
  pub shape : SameShape task.job.modes task.table answer
  pub accepted : tree_checked most task.job.modes answer ≡ Ok tt

-- Demand 2 of every call that is done, by either rule: its rounds are those that document 01 tells, each with the choice that it describes.
abbrev pub EveryAssignment : Type 0
EveryAssignment =
    (rooms : Rooms) (call : Asked) (count weight : ℕ) (answer : List ℕ)
    → outcome rooms call ≡ done count weight answer → AnswerRight rooms.modes (task_of call count) weight answer

-- Two runs of rounds that document 01 tells from the same beginning end the same.
abbrev pub OneEnd : Type 0
OneEnd = (task : Task) (start end other : Rounds) → Went task start end → Went task start other → end ≡ other
