-- A term weighs at most 1, so all terms weigh at most as much as there are terms.
use mathlib.Core.List.{List}
use Prim.Native.Nat.{ℕ, ◌≤◌}
use lib.ListN.{length}
use Rattle.lists.proofs.Counting.{sum_of_ones}
use Rattle.entities.specs.declared.Triple.{Triple}
use Rattle.terms.specs.Weight.{term_letter, term_weight, weight_of}
use Rattle.terms.proofs.LetterLaws.{not_none_at_most}

pub term_weight_at_most : (triple : Triple) (term : List ℕ) → term_weight triple term ≤ 1
unfolding term_weight
term_weight_at_most triple term = not_none_at_most (term_letter triple term)

pub weight_at_most : (triple : Triple) (terms : List (List ℕ)) → weight_of triple terms ≤ length terms
unfolding weight_of
weight_at_most triple terms = sum_of_ones (term_weight triple) (term_weight_at_most triple) terms
