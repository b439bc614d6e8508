-- "Step i takes the least; on a tie, the triple named first by (a, z) in ascending a, then z."
use Rattle.std.specs.Prelude.{◌≡◌, List, ◌⊎◌, ℕ, ◌≤◌}
use Rattle.entities.specs.declared.Triple.{Triple}
use Rattle.terms.specs.Job.{Job}
use Rattle.terms.specs.Weight.{weight_of}
use Rattle.history.specs.History.{rows_after}
use Rattle.history.specs.Lawful.{Lawful, LawfulHistory, Pair, Names, Sooner}

-- The weight of a triple after a history.
unfoldable pub weight_in : Job → List Triple → Triple → ℕ
weight_in job history triple = weight_of triple (rows_after job history)

-- The choice of a step, as a reader states it: no lawful triple is lighter, and of those that are as light none is named before it.
pub record Chosen (job : Job) (history : List Triple) (triple : Triple) : Type 0 where
  pub lawful : Lawful job.modes history triple
  pub least : (other : Triple) → Lawful job.modes history other → weight_in job history triple ≤ weight_in job history other
  pub name : Pair
  pub names : Names name triple
  pub first : (other : Triple) → Lawful job.modes history other → weight_in job history other ≡ weight_in job history triple
      → (pair : Pair) → Names pair other → (name ≡ pair) ⊎ Sooner name pair

-- Two triples that a step could choose are equal.
abbrev pub OneChosen : Type 0
OneChosen =
    (job : Job) (history : List Triple) → LawfulHistory job.modes history
    → (one other : Triple) → Chosen job history one → Chosen job history other → one ≡ other
