-- "go through every lawful sequence of merges …, each exactly once in ascending order of (x, y, z) at the first differing step."
use Rattle.std.specs.Prelude.{◌≡◌, ◌⊎◌, ℕ, zero, suc, ◌+◌, ◌-◌, ◌*◌, ◌<◌, length}
use mathlib.Core.List.{List, [], ◌∷◌, map, flat_map, Memᴰ}
use Rattle.lists.specs.Members.{keep}
use Rattle.lists.specs.Ordered.{Ascending}
use Rattle.entities.specs.declared.Triple.{Triple}
use Rattle.history.specs.History.{merge_of, history_before}
use Rattle.history.specs.Lawful.{LawfulHistory}
use Rattle.history.specs.computed.Pairs.{is_lawful, entities}

-- "ascending order of (x, y, z)": the smaller x first, of the same x the smaller y, of the same x and y the smaller z.
abbrev pub Before : Triple → Triple → Type 0
Before one other =
    (one.x < other.x)
    ⊎ ((one.x ≡ other.x) × ((one.y < other.y) ⊎ ((one.y ≡ other.y) × (one.z < other.z))))

-- "at the first differing step": before it the two sequences have the same merges, and the one's merge there comes first.
pub record Earlier (one other : List Triple) : Type 0 where
  pub step : ℕ
  pub within_one : step < length one
  pub within_other : step < length other
  pub same_before : history_before one step ≡ history_before other step
  pub differs : Before (merge_of one step) (merge_of other step)

-- A list of "every lawful sequence of merges": each, no other, and none twice, for they ascend.
pub record LawfulSequences (modes : ℕ) (list : List (List Triple)) : Type 0 where
  pub each : (history : List Triple) → LawfulHistory modes history → length history ≡ modes → Memᴰ history list
  pub no_other : (history : List Triple) → Memᴰ history list → LawfulHistory modes history × (length history ≡ modes)
  pub ascending : Ascending Earlier list

-- All triples of entities so far, "in ascending order of (x, y, z)".
unfoldable pub triples : ℕ → List Triple → List Triple
triples modes history =
    flat_map
    (λ x. flat_map (λ y. map (λ z. record { x = x; y = y; z = z }) (entities modes history)) (entities modes history))
    (entities modes history)

-- The lawful ones.
unfoldable pub lawful_triples : ℕ → List Triple → List Triple
lawful_triples modes history = keep (is_lawful modes history) (triples modes history)

-- The sequences that begin with a history and go on with `steps` lawful merges.
unfoldable pub sequences_from : ℕ → ℕ → List Triple → List (List Triple)
sequences_from modes zero history = history ∷ []
sequences_from modes (suc steps) history =
    flat_map (λ merge. sequences_from modes steps (merge ∷ history)) (lawful_triples modes history)

-- All of n merges.
unfoldable pub sequences : ℕ → List (List Triple)
sequences modes = sequences_from modes modes []

-- They are "every lawful sequence", of however many modes.
abbrev pub SequencesRight : Type 0
SequencesRight = (modes : ℕ) → LawfulSequences modes (sequences modes)

-- With j merges left a step has j (2j - 1) lawful triples.
unfoldable pub step_count : ℕ → ℕ
step_count j = j * (2 * j - 1)

abbrev pub StepCount : Type 0
StepCount =
    (modes : ℕ) (history : List Triple) → LawfulHistory modes history → (j : ℕ) → length history + j ≡ modes
    → length (lawful_triples modes history) ≡ step_count j

-- How many sequences of j merges there are: at each step as many ways as it has lawful triples.
unfoldable pub sequence_count : ℕ → ℕ
sequence_count zero = 1
sequence_count (suc j) = step_count (suc j) * sequence_count j

abbrev pub SequenceCount : Type 0
SequenceCount = (modes : ℕ) → length (sequences modes) ≡ sequence_count modes

-- "For 1 to 4 modes … (1, 6, 90, 2520 of them)".
pub record SmallCounts : Type 0 where
  pub of_one : length (sequences 1) ≡ 1
  pub of_two : length (sequences 2) ≡ 6
  pub of_three : length (sequences 3) ≡ 90
  pub of_four : length (sequences 4) ≡ 2520
