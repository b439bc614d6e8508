-- The lawful pairs are those that name a lawful triple, its x or its y with its z; each names one triple, and they ascend.
use mathlib.Core.Path.{◌≡◌, refl, ap, ◌∙◌, sym}
use mathlib.Core.Bool.{Bool, true, false, cond}
use mathlib.Core.List.Memᴰ
use mathlib.Core.List.{List, Memᴰ}
use mathlib.Core.Logic.{inl, inr, ⊎_elim}
use Prim.Native.Nat.{ℕ, ◌+◌, ◌-◌, ◌%◌, ◌<◌}
use native.Mathlib.Omega.{arith}
use borrow.Author.Tests.{eq-eqb, ne_eqb}
use lib.Dec.{eqb}
use Rattle.lists.proofs.Membership.{kept, of_kept, joined, of_joined, counted}
use Rattle.lists.specs.Ordered.{Ascending}
use Rattle.lists.proofs.Ordered.{counted_ascends, kept_ascends, map_ascends, joined_ascends}
use Rattle.entities.specs.declared.Triple.{Triple}
use Rattle.history.specs.History.{next_parent, z_end}
use Rattle.history.specs.Lawful.{Lawful, LawfulHistory, Pair, Names, Sooner, LawfulPairs}
use Rattle.history.specs.computed.Pairs.{holder, is_lawful, named, entities, pairs_with, lawful_pairs}
use Rattle.history.proofs.LawfulTest.{test_lawful, lawful_test}
use Rattle.history.proofs.Holders.{open_below, holds_end}

pub same_pair : (p q : Pair) → p.a ≡ q.a → p.z ≡ q.z → p ≡ q
same_pair p q e h = go p.a q.a p.z q.z e h
  where
    go : (a b y z : ℕ) → a ≡ b → y ≡ z → ◌≡◌ {A = Pair} (record { a = a; z = y }) (record { a = b; z = z })
    go a b y z e h = cc

-- The pairs that are listed are those of entities so far that name a lawful triple.
module _ (modes : ℕ) (history : List Triple) (pair : Pair) where
  pub pair_listed : Lawful modes history (named modes history pair) → pair.a < next_parent modes history → pair.z < next_parent modes history
      → Memᴰ pair (lawful_pairs modes history)
  unfolding lawful_pairs pairs_with entities
  pair_listed l a_so_far z_so_far =
      joined (pairs_with modes history) _ (counted pair.a 0 (next_parent modes history) (omega arith) (omega arith))
      (kept (λ p. is_lawful modes history (named modes history p)) _ (lawful_test modes history _ l)
      (Memᴰ.map (λ z. record { a = pair.a; z = z }) (counted pair.z 0 (next_parent modes history) (omega arith) (omega arith))))

  pub pair_lawful : Memᴰ pair (lawful_pairs modes history) → Lawful modes history (named modes history pair)
  unfolding lawful_pairs pairs_with
  pair_lawful m =
      let from = of_joined (pairs_with modes history) _ m in
      test_lawful modes history _ (of_kept (λ p. is_lawful modes history (named modes history p)) _ from.2).1

  pub names_named : Names pair (named modes history pair)
  unfolding named
  names_named = go (eqb (z_end modes history pair.a % 2) 0)
    where
      go : (b : Bool) → Names pair (cond b (record { x = pair.a; y = holder modes history (z_end modes history pair.a + 1); z = pair.z })
          (record { x = holder modes history (z_end modes history pair.a - 1); y = pair.a; z = pair.z }))
      go true = record { a_is = inl refl; z_is = refl }
      go false = record { a_is = inr refl; z_is = refl }

module _ (modes : ℕ) (history : List Triple) (lawful : LawfulHistory modes history) (triple : Triple) (l : Lawful modes history triple) where
  pub named_by_x : named modes history (record { a = triple.x; z = triple.z }) ≡ triple
  unfolding named
  named_by_x = rw (eq-eqb _ _ l.x_even) (rw (← l.y_next) (rw (holds_end modes history lawful triple.y l.y_open)))

  pub named_by_y : named modes history (record { a = triple.y; z = triple.z }) ≡ triple
  unfolding named
  named_by_y =
      let before : z_end modes history triple.y - 1 ≡ z_end modes history triple.x = omega arith in
      rw (ne_eqb (z_end modes history triple.y % 2) 0 (λ e. omega arith))
      (rw before (rw (holds_end modes history lawful triple.x l.x_open)))

  pub named_triple : (pair : Pair) → Names pair triple → named modes history pair ≡ triple
  named_triple pair names =
      ⊎_elim
      (λ e. ap (named modes history) (same_pair pair _ e names.z_is) ∙ named_by_x)
      (λ e. ap (named modes history) (same_pair pair _ e names.z_is) ∙ named_by_y)
      names.a_is

  pub names_listed : (pair : Pair) → Names pair triple → Memᴰ pair (lawful_pairs modes history)
  names_listed pair names =
      pair_listed modes history pair (rw (named_triple pair names) l)
      (⊎_elim (λ e. rw e (open_below modes history _ l.x_open)) (λ e. rw e (open_below modes history _ l.y_open)) names.a_is)
      (rw names.z_is (open_below modes history _ l.z_open))

module _ (modes : ℕ) (history : List Triple) where
  entities_ascend : Ascending ◌<◌ (entities modes history)
  unfolding entities
  entities_ascend = counted_ascends 0 (next_parent modes history)

  with_a : (a : ℕ) (pair : Pair) → Memᴰ pair (pairs_with modes history a) → pair.a ≡ a
  unfolding pairs_with
  with_a a pair m =
      let from = Memᴰ.of_map (λ z. record { a = a; z = z }) (entities modes history)
      (of_kept (λ p. is_lawful modes history (named modes history p)) _ m).0 in
      sym (ap (λ (p : Pair). p.a) from.2)

  with_a_ascend : (a : ℕ) → Ascending Sooner (pairs_with modes history a)
  unfolding pairs_with
  with_a_ascend a =
      kept_ascends Sooner (λ p. is_lawful modes history (named modes history p)) _
      (map_ascends ◌<◌ Sooner (λ z. record { a = a; z = z }) (λ y z h. inr (refl, h)) (entities modes history) entities_ascend)

  pub pairs_ascend : Ascending Sooner (lawful_pairs modes history)
  unfolding lawful_pairs
  pairs_ascend =
      joined_ascends ◌<◌ Sooner (pairs_with modes history) with_a_ascend
      (λ a c h p q m n. inl (omega (arith, with_a a p m, with_a c q n)))
      (entities modes history) entities_ascend

pub pairs_right : (modes : ℕ) (history : List Triple) → LawfulHistory modes history → LawfulPairs modes history (lawful_pairs modes history)
pairs_right modes history lawful =
    record {
      each = λ pair triple l names. names_listed modes history lawful triple l pair names;
      no_other = λ pair m. (named modes history pair, (pair_lawful modes history pair m, names_named modes history pair));
      ascending = pairs_ascend modes history;
    }
