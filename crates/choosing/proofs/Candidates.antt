-- The candidates one after the other: those of each a in turn, and of an a those with each z.
use Rattle.std.specs.Prelude.{None, Some}
use mathlib.Core.Path.{◌≡◌, refl, ap, ◌∙◌, fun_ext}
use mathlib.Core.Bool.{Bool, true, false, cond, ◌&&◌}
use mathlib.Core.List.{List, [], ◌∷◌, ◌++◌, map, flat_map}
use Prim.Native.Nat.{ℕ, ◌+◌, ◌-◌, ◌<◌, ◌≤◌}
use native.Mathlib.Nat.{sub-zero}
use Rattle.lists.specs.Members.{keep}
use Rattle.lists.specs.Ranges.{listed}
use Rattle.lists.proofs.Listed.{map_listed}
use Rattle.lists.proofs.Kept.{keep_map, keep_none}
use Rattle.lists.proofs.Joined.{map_flatMap}
use Rattle.lists.proofs.Ranges.{listed_step, listed_end, keep_on, keep_done, keep_same}
use Rattle.entities.specs.declared.Triple.{Triple}
use Rattle.history.specs.History.{next_parent}
use Rattle.history.specs.computed.Pairs.{named, is_lawful, entities, pairs_with, lawful_pairs}
use Rattle.history.specs.computed.Choosing.{candidates}
use Rattle.choosing.specs.code.Couples.{x_of, y_of, coupled, couple, free, beside, beside_couple}
use Rattle.choosing.proofs.Couples.{named_parts, lawful_parts}

module _ (modes : ℕ) (history : List Triple) where
  -- The triples that the lawful pairs with this a name.
  pub named_with : ℕ → List Triple
  named_with a = map (named modes history) (pairs_with modes history a)

  three : ℕ → ℕ → Triple
  three a z = record { x = x_of modes history a; y = y_of modes history a; z = z }

  lawful_three : (a z : ℕ) → is_lawful modes history (three a z) ≡ (coupled modes history (x_of modes history a) (y_of modes history a) && free modes history (three a z))
  unfolding three
  lawful_three a z = lawful_parts modes history (three a z)

  all_three : (a : ℕ) → named_with a ≡ keep (is_lawful modes history) (listed (three a) 0 (next_parent modes history))
  unfolding named_with pairs_with entities three
  all_three a =
      keep_map (named modes history) (λ pair. is_lawful modes history (named modes history pair)) (is_lawful modes history) (λ pair. refl)
      (map (λ z. record { a = a; z = z }) (listed (λ entity. entity) 0 (next_parent modes history)))
      ∙ ap (keep (is_lawful modes history))
      (ap (map (named modes history)) (map_listed (λ z. record { a = a; z = z }) (λ entity. entity) 0 (next_parent modes history))
      ∙ map_listed (named modes history) (λ z. record { a = a; z = z }) 0 (next_parent modes history)
      ∙ ap (λ rule. listed rule 0 (next_parent modes history)) (fun_ext (λ z. named_parts modes history (record { a = a; z = z }))))

  pub named_with_couple : (a : ℕ) → named_with a ≡ beside_couple modes history (next_parent modes history) (couple modes history a)
  unfolding couple beside beside_couple three
  named_with_couple a =
      all_three a
      ∙ keep_same (three a) (is_lawful modes history) (λ triple. coupled modes history (x_of modes history a) (y_of modes history a) && free modes history triple)
      (lawful_three a) 0 (next_parent modes history)
      ∙ go (coupled modes history (x_of modes history a) (y_of modes history a))
    where
      go : (b : Bool)
          → keep (λ triple. b && free modes history triple) (listed (three a) 0 (next_parent modes history))
          ≡ beside_couple modes history (next_parent modes history) (cond b (Some (record { x = x_of modes history a; y = y_of modes history a })) None)
      go true = refl
      go false = keep_none (λ triple. false) (λ triple. refl) (listed (three a) 0 (next_parent modes history))

  -- The candidates of the entities from a on.
  pub candidates_from : ℕ → ℕ → List Triple
  candidates_from a count = flat_map named_with (listed (λ entity. entity) a count)

  pub candidates_all : candidates modes history ≡ candidates_from 0 (next_parent modes history - 0)
  unfolding candidates candidates_from lawful_pairs entities named_with
  candidates_all =
      rw (sub-zero (next_parent modes history))
      (map_flatMap (named modes history) (pairs_with modes history) (listed (λ entity. entity) 0 (next_parent modes history)))

  pub candidates_step : (a count : ℕ) → a < count → candidates_from a (count - a) ≡ named_with a ++ candidates_from (a + 1) (count - (a + 1))
  unfolding candidates_from flat_map
  candidates_step a count h = rw (listed_step (λ entity. entity) count a h)

  pub candidates_end : (a count : ℕ) → count ≤ a → candidates_from a (count - a) ≡ []
  unfolding candidates_from flat_map
  candidates_end a count h = rw (listed_end (λ entity. entity) count a h)

  -- The triples of x and y with each z from here on.
  pub beside_step : (x y z count : ℕ) → z < count
      → beside modes history x y z (count - z)
      ≡ cond (free modes history (record { x = x; y = y; z = z })) (record { x = x; y = y; z = z } ∷ []) []
      ++ beside modes history x y (z + 1) (count - (z + 1))
  unfolding beside
  beside_step x y z count h = keep_on (free modes history) (λ w. record { x = x; y = y; z = w }) count z h

  pub beside_end : (x y z count : ℕ) → count ≤ z → beside modes history x y z (count - z) ≡ []
  unfolding beside
  beside_end x y z count h = keep_done (free modes history) (λ w. record { x = x; y = y; z = w }) count z h
