-- The heuristics by their numbers.
use Rattle.std.specs.Prelude.{◌≡◌, ℕ, ◌<◌, Result, MatchResult}
use Rattle.refusal.specs.declared.Refusal.{Refusal}
use Rattle.refusal.specs.declared.Refusal.TheVariants.{Heuristic as NoHeuristic}
use Rattle.slots.specs.declared.heuristics.Heuristic.{Heuristic}
use Rattle.slots.specs.declared.heuristics.Heuristic.TheVariants.{MinWeight, XFirst, ZFirst}

-- "0 is `min_weight`, 1 `x_first`, 2 `z_first`".
abbrev pub heuristic_number : Heuristic → ℕ
heuristic_number MinWeight = 0
heuristic_number XFirst = 1
heuristic_number ZFirst = 2

-- What is said of a number: its heuristic, or 17 "heuristic not 0, 1, 2".
abbrev pub HeuristicSaid : ℕ → Result Heuristic Refusal → Type 0
HeuristicSaid number r = MatchResult r (λ heuristic. heuristic_number heuristic ≡ number) (λ why. (2 < number) × (why ≡ NoHeuristic))
