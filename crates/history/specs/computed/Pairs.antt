-- The lawful ordered pairs as a list that is computed: it is the list that `LawfulPairs` describes (`pairs-right`).
use Rattle.std.specs.Prelude.{Bool, cond, ◌&&◌, ℕ, ◌+◌, ◌-◌, ◌%◌, eqb}
use mathlib.Core.List.{List, [], ◌∷◌, map, flat_map}
use Rattle.lists.specs.Members.{keep}
use Rattle.lists.specs.Ranges.{listed}
use Rattle.entities.specs.declared.Triple.{Triple}
use Rattle.history.specs.History.{next_parent, z_end}
use Rattle.history.specs.Lawful.{Pair, three_open, paired}

-- The entity that holds a leaf at its z-end: the last parent whose z-chain reached it, or the leaf itself.
unfoldable pub holder : ℕ → List Triple → ℕ → ℕ
holder modes [] leaf = leaf
holder modes (merge ∷ history) leaf =
    cond (eqb (z_end modes history merge.z) leaf) (next_parent modes history) (holder modes history leaf)

-- The sentence of a lawful triple as a test.
unfoldable pub is_lawful : ℕ → List Triple → Triple → Bool
is_lawful modes history triple = three_open modes history triple && paired modes history triple

-- The triple that a pair names: a with the holder of the leaf paired with a's z-end, the even one first.
unfoldable pub named : ℕ → List Triple → Pair → Triple
named modes history pair =
    cond (eqb (z_end modes history pair.a % 2) 0)
    (record { x = pair.a; y = holder modes history (z_end modes history pair.a + 1); z = pair.z })
    (record { x = holder modes history (z_end modes history pair.a - 1); y = pair.a; z = pair.z })

-- All entities so far, ascending.
unfoldable pub entities : ℕ → List Triple → List ℕ
entities modes history = listed (λ entity. entity) 0 (next_parent modes history)

-- The lawful pairs with this a, "in ascending a, then z".
unfoldable pub pairs_with : ℕ → List Triple → ℕ → List Pair
pairs_with modes history a =
    keep (λ pair. is_lawful modes history (named modes history pair)) (map (λ z. record { a = a; z = z }) (entities modes history))

-- The lawful ordered pairs, "in ascending a, then z".
unfoldable pub lawful_pairs : ℕ → List Triple → List Pair
lawful_pairs modes history = flat_map (pairs_with modes history) (entities modes history)
