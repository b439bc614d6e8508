-- The choice of a step as a computation: it is the one that `Chosen` describes (`chosen-right`, `chosen-one`).
use Rattle.std.specs.Prelude.{List, map, ℕ}
use Rattle.lists.specs.Least.{least_of}
use Rattle.entities.specs.declared.Triple.{Triple}
use Rattle.terms.specs.Job.{Job}
use Rattle.history.specs.Choice.{weight_in}
use Rattle.history.specs.computed.Pairs.{named, lawful_pairs}

-- The triples that the lawful pairs name, in the pairs' order.
unfoldable pub candidates : ℕ → List Triple → List Triple
candidates modes history = map (named modes history) (lawful_pairs modes history)

-- The choice of a step, as a computation; where there is no lawful pair, three zeros.
unfoldable pub chosen : Job → List Triple → Triple
chosen job history = least_of (weight_in job history) (record { x = 0; y = 0; z = 0 }) (candidates job.modes history)
