-- The lawful triples of a step: each is listed, no other, and they ascend.
use mathlib.Core.Path.{◌≡◌, refl, ap, ◌∙◌, sym}
use mathlib.Core.List.Memᴰ
use mathlib.Core.List.{List, map, flat_map, Memᴰ}
use mathlib.Core.Logic.{inl, inr}
use Prim.Native.Nat.{ℕ, ◌<◌}
use native.Mathlib.Omega.{arith}
use Rattle.lists.specs.Ordered.{Ascending}
use Rattle.lists.proofs.Membership.{kept, of_kept, joined, of_joined, counted}
use Rattle.lists.proofs.Ordered.{counted_ascends, kept_ascends, map_ascends, joined_ascends}
use Rattle.entities.specs.declared.Triple.{Triple}
use Rattle.history.specs.History.{next_parent}
use Rattle.history.specs.Lawful.{Lawful}
use Rattle.history.specs.computed.Pairs.{is_lawful, entities}
use Rattle.history.proofs.LawfulTest.{test_lawful, lawful_test}
use Rattle.history.proofs.Holders.{open_below}
use Rattle.best.specs.Sequences.{Before, triples, lawful_triples}

module _ (modes : ℕ) (history : List Triple) where
  abbrev with_xy : ℕ → ℕ → List Triple
  with_xy x y = map (λ z. record { x = x; y = y; z = z }) (entities modes history)

  abbrev with_x : ℕ → List Triple
  with_x x = flat_map (with_xy x) (entities modes history)

  so_far : (entity : ℕ) → entity < next_parent modes history → Memᴰ entity (entities modes history)
  unfolding entities
  so_far entity h = counted entity 0 (next_parent modes history) (omega arith) (omega arith)

  pub lawful_listed : (triple : Triple) → Lawful modes history triple → Memᴰ triple (lawful_triples modes history)
  unfolding lawful_triples triples
  lawful_listed triple l =
      kept (is_lawful modes history) _ (lawful_test modes history triple l)
      (joined with_x _ (so_far triple.x (open_below modes history _ l.x_open))
      (joined (with_xy triple.x) _ (so_far triple.y (open_below modes history _ l.y_open))
      (Memᴰ.map (λ z. record { x = triple.x; y = triple.y; z = z }) (so_far triple.z (open_below modes history _ l.z_open)))))

  pub listed_lawful : (triple : Triple) → Memᴰ triple (lawful_triples modes history) → Lawful modes history triple
  unfolding lawful_triples
  listed_lawful triple m = test_lawful modes history triple (of_kept (is_lawful modes history) _ m).1

  entities_ascend : Ascending ◌<◌ (entities modes history)
  unfolding entities
  entities_ascend = counted_ascends 0 (next_parent modes history)

  of_xy : (x y : ℕ) (triple : Triple) → Memᴰ triple (with_xy x y) → (triple.x ≡ x) × (triple.y ≡ y)
  of_xy x y triple m =
      let from = Memᴰ.of_map (λ z. record { x = x; y = y; z = z }) (entities modes history) m in
      (sym (ap (λ (t : Triple). t.x) from.2), sym (ap (λ (t : Triple). t.y) from.2))

  of_x : (x : ℕ) (triple : Triple) → Memᴰ triple (with_x x) → triple.x ≡ x
  of_x x triple m = let from = of_joined (with_xy x) _ m in (of_xy x from.0 triple from.2).0

  xy_ascend : (x y : ℕ) → Ascending Before (with_xy x y)
  xy_ascend x y =
      map_ascends ◌<◌ Before (λ z. record { x = x; y = y; z = z }) (λ a c h. inr (refl, inr (refl, h))) (entities modes history) entities_ascend

  x_ascend : (x : ℕ) → Ascending Before (with_x x)
  x_ascend x =
      joined_ascends ◌<◌ Before (with_xy x) (xy_ascend x)
      (λ y w h p q m n.
      (let one = of_xy x y p m in
      let other = of_xy x w q n in
      inr (one.0 ∙ sym other.0, inl (omega (arith, one.1, other.1)))))
      (entities modes history) entities_ascend

  pub lawful_ascend : Ascending Before (lawful_triples modes history)
  unfolding lawful_triples triples
  lawful_ascend =
      kept_ascends Before (is_lawful modes history) _
      (joined_ascends ◌<◌ Before with_x x_ascend (λ x w h p q m n. inl (omega (arith, of_x x p m, of_x w q n))) (entities modes history) entities_ascend)
