-- "The rows are reduced to 2n+1+node. … The end is when no mode is unassigned."
use Rattle.std.specs.Prelude.{cond, List, ℕ, ◌+◌, ◌/◌, set, replicate}
use Rattle.entities.specs.Parents.{parent_number}
use Rattle.terms.specs.Job.{Job}
use Rattle.terms.specs.Weight.{weight_of}
use Rattle.reduction.specs.Reduction.{reduction}
use Rattle.tree.specs.Table.{child}
use Rattle.slots.specs.Slots.{pair_of, slot, unfixed}
use Rattle.choice.specs.Choice.{Choice}

-- What the rounds have come to: the mode of each pair, the rows, and the sum of chosen weights.
pub record Rounds : Type 0 where
  pub assigned : List ℕ
  pub rows : List (List ℕ)
  pub weight : ℕ

-- What is to be done: the job, the tree's table and the heuristic.
pub record Task : Type 0 where
  pub job : Job
  pub table : List ℕ
  pub heuristic : ℕ

-- Before the first round no pair has a mode.
unfoldable pub before : Job → Rounds
before job = record { assigned = replicate job.modes job.modes; rows = job.terms; weight = 0 }

-- A leaf that isn't fixed yet is fixed as this number, and its partner with it: their pair gets the number's mode.
unfoldable pub fixed : ℕ → List ℕ → ℕ → ℕ → ℕ → List ℕ → List ℕ
fixed modes table node edge number assigned =
    cond (unfixed (slot modes table assigned node edge))
    (set assigned (pair_of modes (child table node edge)) (number / 2))
    assigned

-- What a choice fixes: its X, Y and Z leaf.
unfoldable pub fixed_by : ℕ → List ℕ → Choice → List ℕ → List ℕ
fixed_by modes table choice assigned =
    fixed modes table choice.node 2 choice.triple.z
    (fixed modes table choice.node 1 choice.triple.y
    (fixed modes table choice.node 0 choice.triple.x assigned))

-- A round with this choice.
unfoldable pub after : Task → Choice → Rounds → Rounds
after task choice state = record {
  assigned = fixed_by task.job.modes task.table choice state.assigned;
  rows = reduction task.job.rule choice.triple (parent_number task.job.modes choice.node) state.rows;
  weight = state.weight + weight_of choice.triple state.rows;
}
