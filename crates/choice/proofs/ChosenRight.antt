-- While there is a candidate, the computed choice of a round is the one that document 01 describes.
use mathlib.Core.Path.{◌≡◌, refl, ap, sym}
use mathlib.Core.Bool.{Bool, true, false, not, ◌&&◌, ◌||◌}
use mathlib.Core.List.Memᴰ
use mathlib.Core.List.{List, map, Memᴰ}
use mathlib.Core.Logic.{◌⊎◌, inl, inr, ⊎_elim}
use Prim.Native.Nat.{ℕ, ◌<◌, ◌≤◌}
use native.Mathlib.Omega.{arith}
use borrow.Author.Tests.{ltb-false, le-ltb, eq-eqb, ne_eqb}
use lib.Dec.{eqb, ltb}
use lib.ListN.{length}
use Rattle.lists.specs.Least.{lighter}
use Rattle.lists.proofs.Tests.{same_or_not, neither}
use Rattle.lists.proofs.Membership.{of_joined}
use Rattle.lists.specs.Ordered.{Ascending}
use Rattle.lists.proofs.Ordered.{map_ascends, joined_ascends}
use Rattle.lists.proofs.Narrowing.{any_ascends}
use Rattle.lists.proofs.Least.{Ranks, FirstBest, ranks_turned, ranks_then, lighter_ranks, best_of_first}
use Rattle.entities.specs.declared.Triple.{Triple}
use Rattle.terms.specs.Weight.{weight_of}
use Rattle.slots.specs.Nodes.{active}
use Rattle.slots.proofs.ActiveNodes.{active_ascends}
use Rattle.choice.specs.Choices.{choices_at}
use Rattle.choice.specs.Choice.{Choice, candidates, Larger, Chosen}
use Rattle.choice.specs.computed.Choosing.{larger, better, chosen}

-- One choice of no higher node than another.
abbrev pub Lower : Choice → Choice → Type 0
Lower c d = c.node ≤ d.node

pub same_triple : (t u : Triple) → t.x ≡ u.x → t.y ≡ u.y → t.z ≡ u.z → t ≡ u
same_triple t u e f g = go t.x u.x t.y u.y t.z u.z e f g
  where
    go : (a b c d y z : ℕ) → a ≡ b → c ≡ d → y ≡ z → ◌≡◌ {A = Triple} (record { x = a; y = c; z = y }) (record { x = b; y = d; z = z })
    go a b c d y z e f g = cc

-- Two numbers are equal where neither is less.
eqb_neither : (m n : ℕ) → eqb m n ≡ (not (ltb m n) && not (ltb n m))
eqb_neither m n =
    ⊎_elim
    (λ e. rw (eq-eqb m n e, le-ltb m n (omega arith), le-ltb n m (omega arith)))
    (λ other. rw (ne_eqb m n other) (go (ltb m n) refl (ltb n m) refl other))
    (same_or_not m n)
  where
    go : (p : Bool) → ltb m n ≡ p → (q : Bool) → ltb n m ≡ q → (m ≡ n → ⊥) → false ≡ (not p && not q)
    go true e q f other = refl
    go false e true f other = refl
    go false e false f other = absurd (other (omega (arith, ltb-false m n e, ltb-false n m f)))

-- By a number first, the larger or the smaller, then by another test.
module _ {A : Type 0} (measure : A → ℕ) where
  smaller_ranks : Ranks (λ (a b : A). ltb (measure a) (measure b))
  unfolding lighter
  smaller_ranks = lighter_ranks measure

  larger_ranks : Ranks (λ (a b : A). ltb (measure b) (measure a))
  unfolding lighter
  larger_ranks = ranks_turned (lighter measure) (lighter_ranks measure)

larger_is : Ranks larger
unfolding larger
larger_is =
    ranks_then _ _ _ (λ t u. eqb_neither u.z t.z) (larger_ranks (λ t. t.z))
    (ranks_then _ _ _ (λ t u. eqb_neither u.y t.y) (larger_ranks (λ t. t.y)) (larger_ranks (λ t. t.x)))

better_ranks : (rows : List (List ℕ)) → Ranks (better rows)
unfolding better
better_ranks rows =
    ranks_then _ _ (λ c d. larger c.triple d.triple) (λ c d. eqb_neither (weight_of c.triple rows) (weight_of d.triple rows))
    (smaller_ranks (λ c. weight_of c.triple rows))
    (record {
      one_way = λ c d e. larger_is.one_way c.triple d.triple e;
      no_better = λ b c d e f. larger_is.no_better b.triple c.triple d.triple e f;
    })

-- What is not ahead by a number and then by the rest.
not_ahead : (m n : ℕ) (rest : Bool) → (ltb m n || (eqb m n && rest)) ≡ false → (n < m) ⊎ ((n ≡ m) × (rest ≡ false))
not_ahead m n rest e =
    let p = neither (ltb m n) _ e in
    ⊎_elim
    (λ same. inr (sym same, rw (eq-eqb m n same) at p.1))
    (λ other. inl (omega (arith, ltb-false m n p.0)))
    (same_or_not m n)

not_larger : (t u : Triple) → larger u t ≡ false → Larger t u ⊎ (u ≡ t)
unfolding larger
not_larger t u e =
    ⊎_elim (λ z. inl (inl z))
    (λ z.
    ⊎_elim (λ y. inl (inr (z.0, inl y)))
    (λ y.
    ⊎_elim
    (λ x. inr (same_triple u t x y.0 z.0))
    (λ x. inl (inr (z.0, inr (y.0, omega (arith, ltb-false t.x u.x y.1)))))
    (same_or_not u.x t.x))
    (not_ahead t.y u.y _ z.1))
    (not_ahead t.z u.z _ e)

module _ (modes : ℕ) (table : List ℕ) (heuristic : ℕ) (assigned : List ℕ) where
  -- A candidate is an active node with one of its choices.
  pub of_candidates : {choice : Choice} → Memᴰ choice (candidates modes table heuristic assigned)
      → Memᴰ choice.node (active modes table heuristic assigned) × Memᴰ choice.triple (choices_at modes table assigned choice.node)
  unfolding candidates
  of_candidates m =
      let j = of_joined _ (active modes table heuristic assigned) m in
      let r = Memᴰ.of_map _ (choices_at modes table assigned j.0) j.2 in
      rw (← r.2) (j.1, r.1)

  candidates_ascend : Ascending Lower (candidates modes table heuristic assigned)
  unfolding candidates
  candidates_ascend =
      joined_ascends ◌<◌ Lower
      (λ node. map (λ triple. record { node = node; triple = triple }) (choices_at modes table assigned node))
      (λ node.
      map_ascends (λ t u. Unit) Lower (λ triple. record { node = node; triple = triple }) (λ t u h. omega arith)
      (choices_at modes table assigned node) (any_ascends (λ t u. Unit) (λ t u. tt) (choices_at modes table assigned node)))
      (λ a c h b d m n.
      (let r = Memᴰ.of_map _ (choices_at modes table assigned a) m in
      let s = Memᴰ.of_map _ (choices_at modes table assigned c) n in
      omega (arith, ap (λ (e : Choice). e.node) r.2, ap (λ (e : Choice). e.node) s.2)))
      (active modes table heuristic assigned) (active_ascends modes table heuristic assigned)

  module _ (rows : List (List ℕ)) (some : 0 < length (candidates modes table heuristic assigned)) where
    pub chosen_first : FirstBest (better rows) Lower (candidates modes table heuristic assigned) (chosen modes table heuristic assigned rows)
    unfolding chosen
    chosen_first = best_of_first (better rows) (better_ranks rows) Lower _ (candidates modes table heuristic assigned) some candidates_ascend

    -- A candidate is heavier, or as heavy and its triple isn't larger.
    beside : (other : Choice) → Memᴰ other (candidates modes table heuristic assigned)
        → (weight_of (chosen modes table heuristic assigned rows).triple rows < weight_of other.triple rows)
        ⊎ ((weight_of (chosen modes table heuristic assigned rows).triple rows ≡ weight_of other.triple rows)
        × (larger other.triple (chosen modes table heuristic assigned rows).triple ≡ false))
    unfolding better
    beside other m = not_ahead (weight_of other.triple rows) _ _ (chosen_first.none_better other m)

    -- A candidate with the same triple comes no earlier.
    no_earlier : (other : Choice) → Memᴰ other (candidates modes table heuristic assigned)
        → other.triple ≡ (chosen modes table heuristic assigned rows).triple → (chosen modes table heuristic assigned rows).node ≤ other.node
    unfolding better
    no_earlier other m e =
        let best = chosen modes table heuristic assigned rows in
        ⊎_elim (λ q. omega (arith, ap (λ (c : Choice). c.node) q)) (λ low. low)
        (chosen_first.first other m (rw e (chosen_first.none_better best chosen_first.member)))

    pub chosen_right : Chosen modes table heuristic assigned rows (chosen modes table heuristic assigned rows)
    chosen_right =
        let best = chosen modes table heuristic assigned rows in
        record {
          candidate = chosen_first.member;
          least = λ other m. ⊎_elim (λ less. omega arith) (λ tie. omega (arith, tie.0)) (beside other m);
          largest =
              λ other m same.
              ⊎_elim (λ less. absurd (omega arith))
              (λ tie. ⊎_elim inl (λ e. inr (e, no_earlier other m e)) (not_larger best.triple other.triple tie.1))
              (beside other m);
        }
