-- One round more, and where the rounds end.
use Rattle.std.proofs.Common.{◌≡◌, refl, ap, true, false, List, ℕ, suc, ◌+◌, ◌-◌, ◌*◌, ◌<◌, ◌≤◌, arith, eqb, length, replicate}
use mathlib.Core.Path.{fun_ext}
use native.Mathlib.Nat.{sub-zero}
use Rattle.lists.specs.Least.{best_of}
use Rattle.terms.specs.Rows.{terms_of}
use Rattle.terms.specs.Weight.{weight_of}
use Rattle.reduction.specs.Reduction.{reduction, live}
use Rattle.reduction.proofs.AsTold.{live_weight}
use Rattle.choice.specs.Choices.{unassigned}
use Rattle.choice.specs.Choice.{Choice, candidates}
use Rattle.choice.specs.computed.Choosing.{better, chosen}
use Rattle.topphatt.specs.Rounds.{Rounds, Task, before, fixed_by, after}
use Rattle.topphatt.specs.computed.Rounding.{choice_in, next, rounds, ended}
use Rattle.topphatt.specs.declared.task.Task.{Task as GoodTask}
use Rattle.topphatt.specs.code.Going.{task_with, ended_over, state_of}

pub stepped : (task : Task) (count : ℕ) (rows assigned : List ℕ) (weight : ℕ) (now_rows now_assigned : List ℕ) (r : ℕ) (choice : Choice)
    → choice ≡ choice_in task (state_of count rows assigned weight)
    → now_assigned ≡ fixed_by task.job.modes task.table choice assigned
    → terms_of 9 count now_rows ≡ reduction task.job.rule choice.triple (2 * task.job.modes + 1 + choice.node) (terms_of 9 count rows)
    → r ≡ weight_of choice.triple (terms_of 9 count rows)
    → state_of count now_rows now_assigned (weight + r) ≡ next task (state_of count rows assigned weight)
unfolding state_of next after
stepped task count rows assigned weight now_rows now_assigned r choice right fixing reducing weighing =
    rw (← right, fixing, reducing, weighing)

module _ (task : Task) where
  module _ (state : Rounds) (at : ℕ) where
    pub rounds_on : at < task.job.modes → eqb (length (unassigned task.job.modes state.assigned)) 0 ≡ false
        → rounds task (task.job.modes - at) state ≡ rounds task (task.job.modes - suc at) (next task state)
    unfolding rounds
    rounds_on h e = let more : task.job.modes - at ≡ suc (task.job.modes - suc at) = omega arith in rw more (rw e)

    pub rounds_stop : at < task.job.modes → eqb (length (unassigned task.job.modes state.assigned)) 0 ≡ true
        → rounds task (task.job.modes - at) state ≡ state
    unfolding rounds
    rounds_stop h e = let more : task.job.modes - at ≡ suc (task.job.modes - suc at) = omega arith in rw more (rw e)

    pub rounds_end : task.job.modes ≤ at → rounds task (task.job.modes - at) state ≡ state
    unfolding rounds
    rounds_end h = let none : task.job.modes - at ≡ 0 = omega arith in rw none

pub rounds_start : (task : GoodTask) (count : ℕ) (rows assigned : List ℕ) → assigned ≡ replicate task.modes task.modes
    → rounds (task_with task (terms_of 9 count rows)) (task.modes - 0) (state_of count rows assigned 0) ≡ ended_over task count rows
unfolding ended before state_of
rounds_start task count rows assigned e = rw (sub-zero, e)

pub state_assigned : (count : ℕ) (rows assigned : List ℕ) (weight : ℕ) → (state_of count rows assigned weight).assigned ≡ assigned
unfolding state_of
state_assigned count rows assigned weight = refl

-- A choice among the rows that are there is the choice among all: a row that is gone weighs nothing.
pub chosen_live : (modes : ℕ) (table : List ℕ) (heuristic : ℕ) (assigned : List ℕ) (rows : List (List ℕ))
    → chosen modes table heuristic assigned (live rows) ≡ chosen modes table heuristic assigned rows
unfolding chosen better
chosen_live modes table heuristic assigned rows =
    let none : Choice = record { node = 0; triple = record { x = 0; y = 0; z = 0 } } in
    ap (λ test. best_of test none (candidates modes table heuristic assigned))
    (fun_ext (λ c. fun_ext (λ d. rw (live_weight c.triple rows, live_weight d.triple rows))))
