-- While there is a lawful pair, the computed choice of a step is the one that document 01 describes.
use mathlib.Core.Path.{◌≡◌, refl, ap, ◌∙◌, sym}
use mathlib.Core.List.{List, [], ◌∷◌, Memᴰ}
use mathlib.Core.Logic.{inl, inr, ⊎_elim}
use Prim.Native.Nat.{ℕ, ◌<◌}
use native.Mathlib.Omega.{arith}
use lib.ListN.{length}
use Rattle.lists.specs.Least.{least, least_of}
use Rattle.lists.proofs.Least.{FirstLeast, least_first, least_map}
use Rattle.entities.specs.declared.Triple.{Triple}
use Rattle.terms.specs.Job.{Job}
use Rattle.history.specs.Lawful.{Lawful, LawfulHistory, Pair, Names, Sooner}
use Rattle.history.specs.Choice.{weight_in, Chosen}
use Rattle.history.specs.computed.Pairs.{named, lawful_pairs}
use Rattle.history.specs.computed.Choosing.{candidates, chosen}
use Rattle.history.proofs.Names.{pair_lawful, names_named, named_triple, names_listed, pairs_ascend}

-- The weight of the triple that a pair names.
unfoldable pub pair_weight : Job → List Triple → Pair → ℕ
pair_weight job history pair = weight_in job history (named job.modes history pair)

-- The choice is the triple that the first of the lightest pairs names.
pub record FirstPair (job : Job) (history : List Triple) (triple : Triple) : Type 0 where
  pub pair : Pair
  pub names : triple ≡ named job.modes history pair
  pub found : FirstLeast (pair_weight job history) Sooner (lawful_pairs job.modes history) pair

module _ (job : Job) (history : List Triple) where
  chosen_from : (pairs : List Pair) → lawful_pairs job.modes history ≡ pairs → 0 < length pairs → FirstPair job history (chosen job history)
  unfolding chosen least_of candidates pair_weight
  chosen_from [] e some_pair = absurd (omega arith)
  chosen_from (first ∷ rest) e some_pair =
      record {
        pair = least (λ p. weight_in job history (named job.modes history p)) first rest;
        names = rw e (least_map (weight_in job history) (named job.modes history) first rest);
        found = rw e (least_first _ Sooner first rest (rw e at (pairs_ascend job.modes history)));
      }

  pub chosen_first : 0 < length (lawful_pairs job.modes history) → FirstPair job history (chosen job history)
  chosen_first some_pair = chosen_from _ refl some_pair

module _ (job : Job) (history : List Triple) (lawful : LawfulHistory job.modes history) where
  -- A pair that names a lawful triple is listed, and weighs what the triple does.
  module _ (triple : Triple) (l : Lawful job.modes history triple) (pair : Pair) (names : Names pair triple) where
    listed : Memᴰ pair (lawful_pairs job.modes history)
    listed = names_listed job.modes history lawful triple l pair names

    weighs : pair_weight job history pair ≡ weight_in job history triple
    unfolding pair_weight
    weighs = ap (weight_in job history) (named_triple job.modes history lawful triple l pair names)

  module _ (triple : Triple) (by : FirstPair job history triple) where
    weight_by : pair_weight job history by.pair ≡ weight_in job history triple
    unfolding pair_weight
    weight_by = ap (weight_in job history) (sym by.names)

    pub first_chosen : Chosen job history triple
    first_chosen =
        record {
          lawful = rw by.names (pair_lawful job.modes history by.pair by.found.member);
          least =
              λ other l.
              let by_x : Names (record { a = other.x; z = other.z }) other = record { a_is = inl refl; z_is = refl } in
              omega (arith, weight_by, weighs other l _ by_x, by.found.smallest _ (listed other l _ by_x));
          name = by.pair;
          names = rw by.names (names_named job.modes history by.pair);
          first =
              λ other l same pair names.
              ⊎_elim (λ e. inl (sym e)) inr
              (by.found.first pair (listed other l pair names) (weighs other l pair names ∙ same ∙ sym weight_by));
        }

  pub chosen_right : 0 < length (lawful_pairs job.modes history) → Chosen job history (chosen job history)
  chosen_right some_pair = first_chosen _ (chosen_first job history some_pair)
