-- The node of a round's choice is below the number of modes.
use mathlib.Core.Path.{◌≡◌, refl}
use mathlib.Core.Bool.{true}
use mathlib.Core.List.{List, [], ◌∷◌, map, flat_map}
use Prim.Native.Nat.{ℕ, ◌<◌, ◌≤◌}
use borrow.Author.Tests.{ltb-true}
use lib.Dec.{ltb}
use Rattle.lists.specs.Members.{every}
use Rattle.lists.specs.Least.{best_of}
use Rattle.lists.proofs.Every.{every_uncons, every_append}
use Rattle.lists.proofs.Least.{best_passes}
use Rattle.entities.specs.declared.Triple.{Triple}
use Rattle.slots.specs.Nodes.{active}
use Rattle.slots.proofs.NodeBounds.{Below, active_below}
use Rattle.choice.specs.Choices.{choices_at}
use Rattle.choice.specs.Choice.{Choice, candidates}
use Rattle.choice.specs.computed.Choosing.{better, chosen}

-- What holds of the nodes holds of their choices.
candidates_below : (modes : ℕ) (table assigned : List ℕ) (l : List ℕ) → Below modes l
    → every (λ choice. ltb choice.node modes) (flat_map (λ node. map {B = Choice} (λ triple. record { node = node; triple = triple }) (choices_at modes table assigned node)) l)
    ≡ true
unfolding every flat_map
candidates_below modes table assigned [] e = refl
candidates_below modes table assigned (node ∷ l) e =
    let p = every_uncons (λ u. ltb u modes) node l e in
    every_append (λ choice. ltb choice.node modes) (map {B = Choice} (λ triple. record { node = node; triple = triple }) (choices_at modes table assigned node)) _
    (mine p.0 (choices_at modes table assigned node))
    (candidates_below modes table assigned l p.1)
  where
    mine : ltb node modes ≡ true → (triples : List Triple) → every (λ choice. ltb choice.node modes) (map {B = Choice} (λ triple. record { node = node; triple = triple }) triples) ≡ true
    mine low [] = refl
    mine low (triple ∷ rest) = rw low (mine low rest)

pub chosen_below : (modes : ℕ) (table : List ℕ) (heuristic : ℕ) (assigned : List ℕ) (rows : List (List ℕ)) → 1 ≤ modes
    → (chosen modes table heuristic assigned rows).node < modes
unfolding chosen candidates best_of
chosen_below modes table heuristic assigned rows h =
    of_best (flat_map (λ node. map {B = Choice} (λ triple. record { node = node; triple = triple }) (choices_at modes table assigned node)) (active modes table heuristic assigned))
    (candidates_below modes table assigned (active modes table heuristic assigned) (active_below modes table heuristic assigned))
  where
    of_best : (l : List Choice) → every (λ choice. ltb choice.node modes) l ≡ true → (best_of (better rows) (record { node = 0; triple = record { x = 0; y = 0; z = 0 } }) l).node < modes
    of_best [] e = h
    of_best (first ∷ rest) e =
        let p = every_uncons (λ choice. ltb choice.node modes) first rest e in
        ltb-true _ modes (best_passes (better rows) (λ choice. ltb choice.node modes) first rest p.0 p.1)
