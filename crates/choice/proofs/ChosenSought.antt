-- The best that is sought over a round's nodes is the choice of the round, with its weight.
use mathlib.Core.Path.{◌≡◌, refl, ◌∙◌, ap, sym, fun_ext}
use mathlib.Core.Bool.{cond}
use mathlib.Core.List.Memᴰ
use mathlib.Core.List.{List, [], ◌∷◌, map, flat_map, map-map, Memᴰ}
use Prim.Native.Nat.{ℕ, ◌+◌, ◌*◌, ◌<◌, ◌≤◌}
use native.Mathlib.Omega.{arith}
use borrow.Author.Tests.{lt-ltb}
use lib.ListN.{length}
use Rattle.lists.specs.Least.{best_of, lighter, least}
use Rattle.lists.proofs.Joined.{map_flatMap}
use Rattle.lists.proofs.Membership.{of_joined}
use Rattle.lists.proofs.Least.{best_map}
use Rattle.terms.specs.Weight.{weight_of}
use Rattle.terms.proofs.WeightBound.{weight_at_most}
use Rattle.slots.specs.Nodes.{active}
use Rattle.choice.specs.declared.Selection.{Selection}
use Rattle.choice.specs.Choices.{choices_at}
use Rattle.choice.specs.Choice.{Choice, candidates}
use Rattle.choice.specs.computed.Choosing.{better, chosen}
use Rattle.choice.specs.code.Seeking.{weighed, standing, worst, sought_over, choice_of}
use Rattle.choice.proofs.NumberBounds.{choices_small}
use Rattle.choice.proofs.OrdersAgree.{Fits, standing_better}

-- What was found is this choice, with its weight where that isn't above the rows.
pub record Found (rows : List (List ℕ)) (count : ℕ) (found : Selection) (choice : Choice) : Type 0 where
  pub right : choice_of found ≡ choice
  pub weighs : found.min_weight ≤ count → found.min_weight ≡ weight_of found.leaf_indices rows

module _ (rows : List (List ℕ)) (count : ℕ) (held : length rows ≤ count) where
  of : Choice → Selection
  of choice = weighed rows choice.node choice.triple

  -- Any choice is better than none.
  best_sought : (none first : Choice) (rest : List Choice) → ((choice : Choice) → Memᴰ choice (first ∷ rest) → Fits choice.triple)
      → least standing (worst count) (map of (first ∷ rest)) ≡ of (best_of (better rows) none (first ∷ rest))
  unfolding least best_of lighter of weighed standing worst
  best_sought none first rest fits =
      let light = weight_at_most first.triple rows in
      ap (λ b. least standing (cond b (of first) (worst count)) (map of rest)) (lt-ltb (standing (of first)) (standing (worst count)) (omega arith))
      ∙ best_map (lighter standing) (better rows) of (λ choice. Fits choice.triple) (standing_better rows) first rest
      (fits first (Memᴰ.head refl)) (λ choice m. fits choice (Memᴰ.tail m))

  module _ (modes : ℕ) (few : 3 * modes + 2 < 65536) (table assigned nodes : List ℕ) where
    at_node : ℕ → List Choice
    at_node node = map (λ triple. record { node = node; triple = triple }) (choices_at modes table assigned node)

    weighed_all : flat_map (λ node. map (weighed rows node) (choices_at modes table assigned node)) nodes ≡ map of (flat_map at_node nodes)
    unfolding of at_node
    weighed_all =
        sym
        (map_flatMap of at_node nodes
        ∙ ap (λ g. flat_map g nodes) (fun_ext (λ node. map-map of (λ triple. record { node = node; triple = triple }) (choices_at modes table assigned node))))

    all_fit : (choice : Choice) → Memᴰ choice (flat_map at_node nodes) → Fits choice.triple
    unfolding at_node
    all_fit choice m =
        let j = of_joined at_node nodes m in
        let r = Memᴰ.of_map _ (choices_at modes table assigned j.0) j.2 in
        let s = choices_small modes table assigned j.0 r.1 in
        rw (← r.2) (record { x_fits = omega arith; y_fits = omega arith; z_fits = omega arith })

    over_found : Found rows count (sought_over modes table assigned rows (worst count) nodes) (best_of (better rows) (choice_of (worst count)) (flat_map at_node nodes))
    unfolding sought_over of weighed choice_of best_of least worst
    over_found = rw weighed_all (go (flat_map at_node nodes) all_fit)
      where
        go : (l : List Choice) → ((choice : Choice) → Memᴰ choice l → Fits choice.triple)
            → Found rows count (least standing (worst count) (map of l)) (best_of (better rows) (choice_of (worst count)) l)
        go [] fits = record { right = refl; weighs = λ h. absurd (omega arith) }
        go (first ∷ rest) fits = rw (best_sought (choice_of (worst count)) first rest fits) (record { right = refl; weighs = λ h. refl })

  pub over_chosen : (modes : ℕ) → 3 * modes + 2 < 65536 → (table : List ℕ) (heuristic : ℕ) (assigned : List ℕ)
      → Found rows count (sought_over modes table assigned rows (worst count) (active modes table heuristic assigned)) (chosen modes table heuristic assigned rows)
  unfolding chosen candidates at_node choice_of worst
  over_chosen modes few table heuristic assigned = over_found modes few table assigned (active modes table heuristic assigned)
