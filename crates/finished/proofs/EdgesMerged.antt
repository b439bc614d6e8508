-- The edge of a node under which a leaf stands in the table of the merges: the child of that node's merge which was open over the leaf then.
use mathlib.Core.Path.{◌≡◌, refl, ap, ◌∙◌, sym}
use mathlib.Core.Bool.{Bool, true, false, cond}
use mathlib.Core.List.{List, [], ◌∷◌}
use mathlib.Core.Logic.{⊎_elim}
use Prim.Native.Nat.{ℕ, zero, suc, ◌+◌, ◌*◌, ◌/◌, ◌%◌, ◌<◌, ◌≤◌}
use native.Mathlib.Nat.{zero-add}
use native.Mathlib.Omega.{arith}
use borrow.Author.Tests.{eq-eqb, ne_eqb, lt-ltb, le-ltb, eqb-true}
use lib.Dec.{eqb}
use lib.ListN.{length}
use Rattle.lists.specs.Counting.{occurrences}
use Rattle.lists.proofs.Tests.{same_or_not}
use Rattle.entities.specs.declared.Triple.{Triple}
use Rattle.entities.specs.Codes.{child_code}
use Rattle.entities.proofs.ChildCodes.{code_leaf, code_node}
use Rattle.reduction.specs.Reduction.{replacement}
use Rattle.history.specs.History.{next_parent}
use Rattle.history.proofs.Amounts.{newest_merge}
use Rattle.tree.specs.Table.{child, place_of_code}
use Rattle.tree.proofs.Standing.{place_nowhere}
use Rattle.tree_weight.specs.Weight.{edge_under}
use Rattle.finished.proofs.Merged.{by_edge, Merged, merged_before}
use Rattle.history.proofs.OpenOver.{open_over}

-- The edge of a triple at which an entity stands; 3 where it is none of the three.
unfoldable pub edge_in : Triple → ℕ → ℕ
edge_in triple entity = cond (eqb entity triple.x) 0 (cond (eqb entity triple.y) 1 (cond (eqb entity triple.z) 2 3))

-- The edge of a node under which a leaf came to stand; 3 where it came under none, or the node is not made.
unfoldable pub edge_at : ℕ → List Triple → ℕ → ℕ → ℕ
edge_at modes [] node leaf = 3
edge_at modes (merge ∷ history) node leaf =
    cond (eqb node (length history)) (edge_in merge (open_over modes history leaf)) (edge_at modes history node leaf)

-- The edge that is known, or another.
unfoldable pub known_or : ℕ → ℕ → ℕ
known_or edge other = cond (eqb edge 3) other edge

pub newest_edge : (modes : ℕ) (merge : Triple) (history : List Triple) (leaf : ℕ)
    → edge_at modes (merge ∷ history) (length history) leaf ≡ edge_in merge (open_over modes history leaf)
unfolding edge_at
newest_edge modes merge history leaf = rw (eq-eqb (length history) (length history) refl)

pub older_edge : (modes : ℕ) (merge : Triple) (history : List Triple) (node leaf : ℕ) → (node ≡ length history → ⊥)
    → edge_at modes (merge ∷ history) node leaf ≡ edge_at modes history node leaf
unfolding edge_at
older_edge modes merge history node leaf other = rw (ne_eqb node (length history) other)

no_edge : (modes : ℕ) (history : List Triple) (node leaf : ℕ) → length history ≤ node → edge_at modes history node leaf ≡ 3
unfolding edge_at
no_edge modes [] node leaf h = refl
no_edge modes (merge ∷ history) node leaf h =
    older_edge modes merge history node leaf (λ e. omega arith) ∙ no_edge modes history node leaf (omega arith)

-- An entity is one of a triple's three, and then becomes the parent, or it is none and stays.
edge_cases : (P : Type 0) (triple : Triple) (parent entity : ℕ)
    → ((edge : ℕ) → edge < 3 → edge_in triple entity ≡ edge → by_edge triple edge ≡ entity → replacement triple parent entity ≡ parent → P)
    → (edge_in triple entity ≡ 3 → replacement triple parent entity ≡ entity → P) → P
unfolding edge_in by_edge replacement
edge_cases P triple parent entity found none = go (eqb entity triple.x) refl (eqb entity triple.y) refl (eqb entity triple.z) refl
  where
    go : (x : Bool) → eqb entity triple.x ≡ x → (y : Bool) → eqb entity triple.y ≡ y → (z : Bool) → eqb entity triple.z ≡ z → P
    go true p y q z r = found 0 (omega arith) (rw p) (sym (eqb-true entity triple.x p)) (rw p)
    go false p true q z r = found 1 (omega arith) (rw (p, q)) (sym (eqb-true entity triple.y q)) (rw (p, q))
    go false p false q true r = found 2 (omega arith) (rw (p, q, r)) (sym (eqb-true entity triple.z r)) (rw (p, q, r))
    go false p false q false r = none (rw (p, q, r)) (rw (p, q, r))

-- Every child stands once in the table.
abbrev pub ChildPlaces : ℕ → List ℕ → Type 0
ChildPlaces modes table = (label edge : ℕ) → label < modes → edge < 3 → place_of_code table (child table label edge) ≡ 3 * label + edge

module _ (modes : ℕ) (table : List ℕ) (whole : length table ≡ 3 * modes) (places : ChildPlaces modes table) where
  abbrev code : ℕ → ℕ
  code entity = child_code modes (2 * modes) entity

  -- One step up from a child.
  one_up : (label edge number : ℕ) → label < modes → edge < 3 → child table label edge ≡ number → (steps node : ℕ)
      → edge_under table (suc steps) node number ≡ cond (eqb label node) edge (edge_under table steps node label)
  unfolding edge_under
  one_up label edge number h k e steps node =
      let place : place_of_code table number ≡ 3 * label + edge = ap (place_of_code table) (sym e) ∙ places label edge h k in
      let above : (3 * label + edge) / 3 ≡ label = omega arith in
      let under : (3 * label + edge) % 3 ≡ edge = omega arith in
      rw (place, above, under, lt-ltb (3 * label + edge) (length table) (omega arith))

  -- A code that stands nowhere is under no edge.
  pub none_up : (number : ℕ) → occurrences number table ≡ 0 → (steps node : ℕ) → edge_under table steps node number ≡ 3
  unfolding edge_under
  none_up number never zero node = refl
  none_up number never (suc steps) node =
      rw (le-ltb (place_of_code table number) (length table) (omega (arith, place_nowhere number table never)))

  -- The way up from a leaf to what is open over it, in so many steps.
  pub record Climbs (history : List Triple) (leaf : ℕ) : Type 0 where
    pub hops : ℕ
    pub few : hops ≤ length history
    pub climbs : (steps node : ℕ)
        → edge_under table (hops + steps) node (leaf + modes)
        ≡ known_or (edge_at modes history node leaf) (edge_under table steps node (code (open_over modes history leaf)))

  module _ (merge : Triple) (history : List Triple) (within : length history < modes) (leaf : ℕ) (was : Climbs history leaf) where
    abbrev entity : ℕ
    entity = open_over modes history leaf

    -- The merge takes it one step further up.
    taken : (edge : ℕ) → edge < 3 → edge_in merge entity ≡ edge → child table (length history) edge ≡ code entity
        → open_over modes (merge ∷ history) leaf ≡ next_parent modes history → Climbs (merge ∷ history) leaf
    unfolding known_or next_parent
    taken edge k at stands now =
        record {
          hops = suc was.hops;
          few = omega (arith, was.few);
          climbs = λ steps node.
              let more : suc was.hops + steps ≡ was.hops + suc steps = omega arith in
              rw (more, now, code_node modes (length history))
              (was.climbs (suc steps) node
              ∙ ap (known_or (edge_at modes history node leaf)) (one_up (length history) edge (code entity) within k stands steps node)
              ∙ ⊎_elim
              (λ e.
              let found = newest_edge modes merge history leaf ∙ at in
              let unknown = no_edge modes history (length history) leaf (omega arith) in
              rw (e, found, unknown, eq-eqb (length history) (length history) refl, ne_eqb edge 3 (λ q. omega arith)))
              (λ other. rw (older_edge modes merge history node leaf other, ne_eqb (length history) node (λ q. other (sym q))))
              (same_or_not node (length history)));
        }

    -- The merge leaves it.
    left : edge_in merge entity ≡ 3 → open_over modes (merge ∷ history) leaf ≡ entity → Climbs (merge ∷ history) leaf
    left none now =
        record {
          hops = was.hops;
          few = omega (arith, was.few);
          climbs = λ steps node.
              rw now
              (was.climbs steps node
              ∙ ap (λ edge. known_or edge (edge_under table steps node (code entity)))
              (⊎_elim
              (λ e. rw e (rw (newest_edge modes merge history leaf, none) (no_edge modes history (length history) leaf (omega arith))))
              (λ other. sym (older_edge modes merge history node leaf other))
              (same_or_not node (length history))));
        }

  pub climbs_up : (history : List Triple) → length history ≤ modes → Merged modes history table → (leaf : ℕ) → leaf < 2 * modes → Climbs history leaf
  unfolding open_over edge_at known_or
  climbs_up [] within merged leaf h =
      record { hops = 0; few = omega arith; climbs = λ steps node. rw (zero-add steps, code_leaf modes leaf h) }
  climbs_up (merge ∷ history) within merged leaf h =
      let was = climbs_up history (omega arith) (merged_before modes merge history table merged) leaf h in
      edge_cases (Climbs (merge ∷ history) leaf) merge (next_parent modes history) (open_over modes history leaf)
      (λ edge k at is now.
      taken merge history (omega arith) leaf was edge k at
      (merged.child_is (length history) edge (omega arith) k
      ∙ ap (λ triple. code (by_edge triple edge)) (newest_merge merge history (length history) refl)
      ∙ ap code is)
      now)
      (λ none now. left merge history (omega arith) leaf was none now)
