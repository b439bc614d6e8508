-- How the code goes through the sequences: the k-th is found from k, step by step.
use Rattle.best.specs.declared.search.Lead.{Lead}
use Rattle.std.specs.Prelude.{List, [], ◌∷◌, ◌≡◌, ℕ, zero, suc, ◌/◌, ◌%◌, ◌<◌, eqb, length, get_or, take}
use Rattle.lists.specs.Least.{least}
use Rattle.lists.specs.Members.{keep}
use Rattle.entities.specs.declared.Triple.{Triple}
use Rattle.tree_weight.specs.code.Promises.{own_weight}
use Rattle.finished.specs.Finished.{tree_of}
use Rattle.best.specs.Sequences.{lawful_triples, sequence_count, sequences}

-- No merge.
abbrev pub no_merge : Triple
no_merge = record { x = 0; y = 0; z = 0 }

-- The k-th triple of the first `count` entities in ascending order.
unfoldable pub triple_at : ℕ → ℕ → Triple
triple_at count k = record { x = k / count / count; y = k / count % count; z = k % count }

-- The k-th sequence that begins with a history and goes on with `steps` merges: each step has the same number of ways on behind each of its triples.
unfoldable pub sequence_at : ℕ → ℕ → List Triple → ℕ → List Triple
sequence_at modes zero history k = history
sequence_at modes (suc steps) history k =
    sequence_at modes steps (get_or (lawful_triples modes history) (k / sequence_count steps) no_merge ∷ history) (k % sequence_count steps)

-- What a sequence weighs by an array of operators.
abbrev pub weight_by : ℕ → ℕ → List ℕ → List Triple → ℕ
weight_by modes count own history = own_weight modes count own (tree_of modes history)

-- The first of the lightest of the first k sequences; before any the first of all.
unfoldable pub lead_first : {A : Type 0} → (A → ℕ) → A → List A → ℕ → A
lead_first measure none list k = least measure (get_or list 0 none) (take k list)

-- How many of the first k are as light as that.
unfoldable pub lead_reached : {A : Type 0} → (A → ℕ) → A → List A → ℕ → ℕ
lead_reached measure none list k = length (keep (λ a. eqb (measure a) (measure (lead_first measure none list k))) (take k list))

-- What is known after the first k sequences: the least weight, how many reach it, and the number of the first of them.
pub record Led (modes count : ℕ) (own : List ℕ) (k : ℕ) (lead : Lead) : Type 0 where
  pub number_in_bounds : lead.number < length (sequences modes)
  pub number_is : get_or (sequences modes) lead.number [] ≡ lead_first (weight_by modes count own) [] (sequences modes) k
  pub weight_is : lead.weight ≡ weight_by modes count own (lead_first (weight_by modes count own) [] (sequences modes) k)
  pub reached_is : lead.reached ≡ lead_reached (weight_by modes count own) [] (sequences modes) k
