-- The nodes of a round: some of the farthest remaining ones, ascending, and at least one where any remains.
use mathlib.Core.Path.{◌≡◌, refl, ap}
use mathlib.Core.Bool.{Bool, true, false, cond, not}
use mathlib.Core.List.{List, [], ◌∷◌, map, Memᴰ}
use Prim.Native.Nat.{ℕ, ◌-◌, ◌<◌, ◌≤◌, max}
use native.Mathlib.Omega.{arith}
use borrow.Author.Tests.{eqb-true, eq-eqb, leb-true, leb-false, not-true}
use lib.Dec.{eqb, leb}
use lib.ListN.{length, take, drop, length-take, length-drop}
use Rattle.lists.specs.Members.{firsts}
use Rattle.lists.specs.Ranges.{listed}
use Rattle.lists.proofs.Membership.{kept, of_kept, counted, counted_below}
use Rattle.lists.specs.Ordered.{Ascending}
use Rattle.lists.proofs.Ordered.{counted_ascends, kept_ascends}
use Rattle.lists.proofs.Narrowing.{some_member, of_taken, of_dropped, of_first, some_first, taken_ascends, dropped_ascends, firsts_ascend}
use Rattle.tree.specs.Table.{nodes}
use Rattle.slots.specs.Nodes.{distance, complete, remaining, largest, farthest, narrowed, active}

-- A heuristic keeps some of the nodes, in their order, and at least one.
module _ (heuristic : ℕ) (like : ℕ → ℕ → Bool) (far : List ℕ) where
  pub narrowed_ascends : Ascending ◌<◌ far → Ascending ◌<◌ (narrowed heuristic like far)
  unfolding narrowed firsts
  narrowed_ascends up = go (eqb heuristic 0) (eqb heuristic 1)
    where
      go : (a b : Bool) → Ascending ◌<◌ (cond a (firsts like far) (cond b (take 1 far) (drop (length far - 1) far)))
      go true b = firsts_ascend ◌<◌ like [] far up
      go false true = taken_ascends ◌<◌ 1 far up
      go false false = dropped_ascends ◌<◌ (length far - 1) far up

  pub of_narrowed : {node : ℕ} → Memᴰ node (narrowed heuristic like far) → Memᴰ node far
  unfolding narrowed firsts
  of_narrowed {node} m = go (eqb heuristic 0) (eqb heuristic 1) m
    where
      go : (a b : Bool) → Memᴰ node (cond a (firsts like far) (cond b (take 1 far) (drop (length far - 1) far))) → Memᴰ node far
      go true b n = of_first like [] far n
      go false true n = of_taken 1 far n
      go false false n = of_dropped (length far - 1) far n

  pub some_narrowed : 0 < length far → 0 < length (narrowed heuristic like far)
  unfolding narrowed
  some_narrowed h = go (eqb heuristic 0) (eqb heuristic 1)
    where
      go : (a b : Bool) → 0 < length {A = ℕ} (cond a (firsts like far) (cond b (take 1 far) (drop (length far - 1) far)))
      go true b = some_first like far h
      go false true = omega (arith, length-take 1 far)
      go false false = omega (arith, length-drop (length far - 1) far)

-- The largest of a list is at least each of it, and one of it.
pub largest_most : (f : ℕ → ℕ) (l : List ℕ) (v : ℕ) → Memᴰ v l → f v ≤ largest (map f l)
unfolding largest
largest_most f [] v m = elim m [ ]
largest_most f (a ∷ l) v (Memᴰ.head e) = omega (arith, ap f e)
largest_most f (a ∷ l) v (Memᴰ.tail m) = omega (arith, largest_most f l v m)

pub largest_of : (f : ℕ → ℕ) (l : List ℕ) → 0 < length l → (v : ℕ) × Memᴰ v l × (f v ≡ largest (map f l))
unfolding largest
largest_of f [] h = absurd (omega arith)
largest_of f (a ∷ []) h = (a, Memᴰ.head refl, omega arith)
largest_of f (a ∷ (b ∷ l)) h = go (largest_of f (b ∷ l) (omega arith))
  where
    choose : (c : Bool) (r : (v : ℕ) × Memᴰ v (b ∷ l) × (f v ≡ largest (map f (b ∷ l)))) → leb (f r.0) (f a) ≡ c
        → (v : ℕ) × Memᴰ v (a ∷ (b ∷ l)) × (f v ≡ max (f a) (largest (map f (b ∷ l))))
    choose true r e = (a, Memᴰ.head refl, omega (arith, leb-true (f r.0) (f a) e, r.2))
    choose false r e = (r.0, Memᴰ.tail r.1, omega (arith, leb-false (f r.0) (f a) e, r.2))

    go : (r : (v : ℕ) × Memᴰ v (b ∷ l) × (f v ≡ largest (map f (b ∷ l))))
        → (v : ℕ) × Memᴰ v (a ∷ (b ∷ l)) × (f v ≡ max (f a) (largest (map f (b ∷ l))))
    go r = choose (leb (f r.0) (f a)) r refl

module _ (modes : ℕ) (table : List ℕ) (heuristic : ℕ) (assigned : List ℕ) where
  -- Active nodes are nodes that aren't complete, and no such node is farther.
  pub record Active (node : ℕ) : Type 0 where
    pub inside : node < modes
    pub left : complete modes table assigned node ≡ false
    pub far : (other : ℕ) → other < modes → complete modes table assigned other ≡ false
        → distance table modes other ≤ distance table modes node

  of_remaining : {node : ℕ} → Memᴰ node (remaining modes table assigned)
      → (node < modes) × (complete modes table assigned node ≡ false)
  unfolding remaining nodes
  of_remaining m =
      let r = of_kept (λ node. not (complete modes table assigned node)) (listed (λ node. node) 0 modes) m in
      (omega (arith, counted_below _ 0 modes r.0), not-true (complete modes table assigned _) r.1)

  remains : (node : ℕ) → node < modes → complete modes table assigned node ≡ false
      → Memᴰ node (remaining modes table assigned)
  unfolding remaining nodes
  remains node h e =
      kept (λ node. not (complete modes table assigned node)) (listed (λ node. node) 0 modes) (rw e)
      (counted node 0 modes (omega arith) (omega arith))

  pub of_active : {node : ℕ} → Memᴰ node (active modes table heuristic assigned) → Active node
  unfolding active farthest
  of_active {node} m =
      let left = remaining modes table assigned in
      let f = of_kept (λ v. eqb (distance table modes v) (largest (map (distance table modes) left))) left
      (of_narrowed heuristic _ _ m) in
      let r = of_remaining f.0 in
      let most = eqb-true (distance table modes node) (largest (map (distance table modes) left)) f.1 in
      record {
        inside = r.0;
        left = r.1;
        far = λ other h e. omega (arith, largest_most (distance table modes) left other (remains other h e));
      }

  pub active_ascends : Ascending ◌<◌ (active modes table heuristic assigned)
  unfolding active farthest remaining nodes
  active_ascends =
      narrowed_ascends heuristic _ _ (kept_ascends ◌<◌ _ _ (kept_ascends ◌<◌ _ _ (counted_ascends 0 modes)))

  -- Where a node remains, a node is active.
  pub some_active : (node : ℕ) → node < modes → complete modes table assigned node ≡ false
      → 0 < length (active modes table heuristic assigned)
  unfolding active farthest
  some_active node h e =
      let left = remaining modes table assigned in
      let top = largest_of (distance table modes) left (some_member (remains node h e)) in
      some_narrowed heuristic _ _
      (some_member
      (kept (λ v. eqb (distance table modes v) (largest (map (distance table modes) left))) left
      (eq-eqb (distance table modes top.0) _ top.2) top.1))
