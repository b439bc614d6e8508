-- Where a code stands: a code that stands once stands at its place and nowhere else, under one edge of one node.
use mathlib.Core.Path.{◌≡◌, refl, ap, ◌∙◌, sym}
use mathlib.Core.Bool.{Bool, true, false, cond}
use mathlib.Core.List.{List, [], ◌∷◌, map}
use Prim.Native.Nat.{ℕ, zero, suc, ◌+◌, ◌*◌, ◌/◌, ◌%◌, ◌<◌, ◌≤◌}
use native.Mathlib.Omega.{arith}
use borrow.Author.Tests.{eq-eqb, ne_eqb, lt-ltb, le-ltb, eqb-true, eqb-false}
use lib.Dec.{eqb}
use lib.ListN.{length, get_or}
use Rattle.lists.specs.Counting.{same, occurrences}
use Rattle.lists.specs.Members.{leading}
use Rattle.lists.proofs.Occurring.{occurs_at, occurs_nowhere}
use Rattle.lists.proofs.Sums.{same_one, same_none}
use Rattle.entities.specs.Codes.{absent}
use Rattle.tree.specs.Table.{child, place_of_code, parent_of}

-- The place of a code that is the first, or that is not.
place_first : (code a : ℕ) (l : List ℕ) → a ≡ code → place_of_code (a ∷ l) code ≡ 0
unfolding place_of_code leading
place_first code a l e = rw (eq-eqb a code e)

place_later : (code a : ℕ) (l : List ℕ) → (a ≡ code → ⊥) → place_of_code (a ∷ l) code ≡ suc (place_of_code l code)
unfolding place_of_code leading
place_later code a l e = rw (ne_eqb a code e)

-- A code that occurs has a place within the list, and stands there.
pub place_within : (code : ℕ) (l : List ℕ) → 1 ≤ occurrences code l → place_of_code l code < length l
unfolding occurrences
place_within code [] h = absurd (omega arith)
place_within code (a ∷ l) h = go (eqb a code) refl (place_within code l)
  where
    go : (b : Bool) → eqb a code ≡ b → (1 ≤ occurrences code l → place_of_code l code < length l) → place_of_code (a ∷ l) code < suc (length l)
    go true q on = rw (place_first code a l (eqb-true a code q)) (omega arith)
    go false q on =
        let other = eqb-false a code q in
        rw (place_later code a l other) (omega (arith, on (omega (arith, same_none a code other))))

pub stands_there : (code d : ℕ) (l : List ℕ) → 1 ≤ occurrences code l → get_or l (place_of_code l code) d ≡ code
unfolding occurrences
stands_there code d [] h = absurd (omega arith)
stands_there code d (a ∷ l) h = go (eqb a code) refl (stands_there code d l)
  where
    go : (b : Bool) → eqb a code ≡ b → (1 ≤ occurrences code l → get_or l (place_of_code l code) d ≡ code) → get_or (a ∷ l) (place_of_code (a ∷ l) code) d ≡ code
    go true q on = rw (place_first code a l (eqb-true a code q)) (eqb-true a code q)
    go false q on =
        let other = eqb-false a code q in
        rw (place_later code a l other) (on (omega (arith, same_none a code other)))

-- A code that occurs once stands at no other place.
pub only_there : (code d : ℕ) (l : List ℕ) → occurrences code l ≡ 1 → (i : ℕ) → i < length l → get_or l i d ≡ code → place_of_code l code ≡ i
unfolding occurrences
only_there code d [] h i k e = absurd (omega arith)
only_there code d (a ∷ l) h zero k e = place_first code a l e
only_there code d (a ∷ l) h (suc i) k e =
    let after = occurs_at code l i d (omega arith) e in
    let other : a ≡ code → ⊥ = λ q. absurd (omega (arith, same_one a code q)) in
    place_later code a l other ∙ ap suc (only_there code d l (omega (arith, same_none a code other)) i (omega arith) e)

-- A code that occurs nowhere has the list's length for its place, and is its own parent.
pub place_nowhere : (code : ℕ) (l : List ℕ) → occurrences code l ≡ 0 → place_of_code l code ≡ length l
unfolding occurrences place_of_code leading
place_nowhere code [] h = refl
place_nowhere code (a ∷ l) h =
    let other : a ≡ code → ⊥ = λ q. absurd (omega (arith, same_one a code q)) in
    rw (ne_eqb a code other) (ap suc (place_nowhere code l (omega (arith, same_none a code other))))

pub own_parent : (code : ℕ) (table : List ℕ) → occurrences code table ≡ 0 → parent_of table code ≡ code
unfolding parent_of
own_parent code table h = rw (le-ltb (place_of_code table code) (length table) (omega (arith, place_nowhere code table h)))

pub parent_is : (code : ℕ) (table : List ℕ) → 1 ≤ occurrences code table → parent_of table code ≡ place_of_code table code / 3
unfolding parent_of
parent_is code table h = rw (lt-ltb (place_of_code table code) (length table) (place_within code table h))

-- A code stands where it stood if no other becomes it.
pub place_mapped : (f : ℕ → ℕ) (v : ℕ) (l : List ℕ) → ((a : ℕ) → eqb (f a) v ≡ eqb a v) → place_of_code (map f l) v ≡ place_of_code l v
unfolding place_of_code leading
place_mapped f v [] each = refl
place_mapped f v (a ∷ l) each = rw (each a) (ap (λ n. cond (cond (eqb a v) false true) (suc n) 0) (place_mapped f v l each))

-- What stands at a place is the code exactly where the place is the code's.
same_place : (code d : ℕ) (l : List ℕ) → occurrences code l ≡ 1 → (i : ℕ) → i < length l → same (get_or l i d) code ≡ same i (place_of_code l code)
same_place code d l once i h = go (eqb (get_or l i d) code) refl
  where
    go : (b : Bool) → eqb (get_or l i d) code ≡ b → same (get_or l i d) code ≡ same i (place_of_code l code)
    go true q =
        let e = eqb-true (get_or l i d) code q in
        same_one (get_or l i d) code e ∙ sym (same_one i (place_of_code l code) (sym (only_there code d l once i h e)))
    go false q =
        let other = eqb-false (get_or l i d) code q in
        same_none (get_or l i d) code other
        ∙ sym
        (same_none i (place_of_code l code)
        (λ e. other (ap (λ n. get_or l n d) e ∙ stands_there code d l (omega arith))))

-- The three places of a node hold the place that its quotient names.
three_places : (node place : ℕ) → same (3 * node + 0) place + (same (3 * node + 1) place + same (3 * node + 2) place) ≡ same node (place / 3)
three_places node place = go (eqb node (place / 3)) refl
  where
    within : (r : ℕ) → place ≡ 3 * node + r → r < 3 → same (3 * node + 0) place + (same (3 * node + 1) place + same (3 * node + 2) place) ≡ 1
    within zero e h =
        rw (same_one (3 * node + 0) place (omega arith), same_none (3 * node + 1) place (λ q. omega arith), same_none (3 * node + 2) place (λ q. omega arith))
    within (suc zero) e h =
        rw (same_none (3 * node + 0) place (λ q. omega arith), same_one (3 * node + 1) place (omega arith), same_none (3 * node + 2) place (λ q. omega arith))
    within (suc (suc zero)) e h =
        rw (same_none (3 * node + 0) place (λ q. omega arith), same_none (3 * node + 1) place (λ q. omega arith), same_one (3 * node + 2) place (omega arith))
    within (suc (suc (suc r))) e h = absurd (omega arith)

    go : (b : Bool) → eqb node (place / 3) ≡ b
        → same (3 * node + 0) place + (same (3 * node + 1) place + same (3 * node + 2) place) ≡ same node (place / 3)
    go true q =
        let e = eqb-true node (place / 3) q in
        rw (same_one node (place / 3) e) (within (place % 3) (omega arith) (omega arith))
    go false q =
        let other = eqb-false node (place / 3) q in
        rw (
          same_none node (place / 3) other,
          same_none (3 * node + 0) place (λ e. other (omega arith)),
          same_none (3 * node + 1) place (λ e. other (omega arith)),
          same_none (3 * node + 2) place (λ e. other (omega arith)),
        )

-- How often a code is a child of a node: once under its own parent, and never under another.
module _ (modes : ℕ) (table : List ℕ) (whole : length table ≡ 3 * modes) (code node : ℕ) (h : node < modes) where
  pub held_once : occurrences code table ≡ 1
      → same (child table node 0) code + (same (child table node 1) code + same (child table node 2) code) ≡ same node (place_of_code table code / 3)
  unfolding child
  held_once once =
      rw (
        same_place code absent table once (3 * node + 0) (omega arith),
        same_place code absent table once (3 * node + 1) (omega arith),
        same_place code absent table once (3 * node + 2) (omega arith),
      ) (three_places node (place_of_code table code))

  pub held_never : occurrences code table ≡ 0 → (edge : ℕ) → edge < 3 → same (child table node edge) code ≡ 0
  unfolding child
  held_never never edge k = occurs_nowhere code table (3 * node + edge) absent never (omega arith)

-- The node above a code that stands in the table is one of the nodes.
pub above_below : (modes : ℕ) (table : List ℕ) (code : ℕ) → length table ≡ 3 * modes → 1 ≤ occurrences code table → place_of_code table code / 3 < modes
above_below modes table code whole h = omega (arith, place_within code table h)
