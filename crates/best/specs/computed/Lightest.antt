-- The first of the lightest sequences and their number as computations: they are what `Best` describes (`lightest-best`).
use Rattle.std.specs.Prelude.{List, [], ℕ, eqb, length}
use Rattle.lists.specs.Least.{least_of}
use Rattle.lists.specs.Members.{keep}
use Rattle.entities.specs.declared.Triple.{Triple}
use Rattle.best.specs.Sequences.{sequences}
use Rattle.best.specs.Best.{sequence_weight}

-- "the first sequence reaching it".
unfoldable pub lightest : ℕ → List (List ℕ) → List Triple
lightest modes terms = least_of (sequence_weight modes terms) [] (sequences modes)

-- "the least tree weight".
unfoldable pub least_weight : ℕ → List (List ℕ) → ℕ
least_weight modes terms = sequence_weight modes terms (lightest modes terms)

-- "how many reach it".
unfoldable pub how_many : ℕ → List (List ℕ) → ℕ
how_many modes terms = length (keep (λ history. eqb (sequence_weight modes terms history) (least_weight modes terms)) (sequences modes))
