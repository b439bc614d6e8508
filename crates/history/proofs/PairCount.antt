-- While j merges are to come there are 2j(2j - 1) lawful pairs: 2j entities have a partner, and each pairs with all open but two.
use mathlib.Core.Path.{◌≡◌, refl, ap, ◌∙◌, sym}
use mathlib.Core.Bool.{Bool, true, false, cond}
use mathlib.Core.List.{List, map}
use mathlib.Core.Logic.{⊎_elim}
use Prim.Native.Nat.{ℕ, ◌+◌, ◌-◌, ◌*◌, ◌<◌, ◌≤◌}
use native.Mathlib.Nat.{mul_comm, mul-one, mul-zero, mul-pos}
use native.Mathlib.Omega.{arith}
use borrow.Author.Tests.{lt-ltb, le-ltb, ltb-true, ltb-false}
use lib.Dec.{ltb}
use lib.ListN.{length}
use Rattle.lists.specs.Counting.{same}
use Rattle.lists.proofs.Tests.{same_or_not}
use Rattle.lists.proofs.Totals.{total, without, without_here, without_there, total_same, total_none, total_apart}
use Rattle.lists.proofs.Sums.{one_if, same_one, same_none, sum_map, sum_listed, length_keep, length_flatMap}
use Rattle.entities.specs.declared.Triple.{Triple}
use Rattle.history.specs.History.{next_parent, is_open, z_end}
use Rattle.history.specs.Lawful.{LawfulHistory, Pair}
use Rattle.history.specs.computed.Pairs.{is_lawful, named, entities, pairs_with, lawful_pairs}
use Rattle.history.proofs.LawfulTest.{lawful_test}
use Rattle.history.proofs.Holders.{open_below, open_end_within}
use Rattle.history.proofs.OpenSums.{share, open_sum, share_open, share_closed, open_same, open_add, open_times, open_count}
use Rattle.history.proofs.AbsentLeaf.{unpaired_once}
use Rattle.history.proofs.Partners.{unlawful_test, first_fits, Third, Partner, has_partner}

-- 1 where the pair is lawful, else 0.
lawful_one : ℕ → List Triple → ℕ → ℕ → ℕ
lawful_one modes history a z = one_if (is_lawful modes history (named modes history (record { a = a; z = z })))

-- 1 for an entity whose z-end has a mate, else 0.
unfoldable pub mated : ℕ → List Triple → ℕ → ℕ
mated modes history entity = one_if (ltb (z_end modes history entity) (2 * modes))

module _ (modes : ℕ) (history : List Triple) where
  length_with : (a : ℕ) → length (pairs_with modes history a) ≡ total (lawful_one modes history a) (next_parent modes history)
  unfolding pairs_with entities lawful_one
  length_with a =
      length_keep (λ pair. is_lawful modes history (named modes history pair)) (map (λ z. record { a = a; z = z }) (entities modes history))
      ∙ sum_map (λ pair. one_if (is_lawful modes history (named modes history pair))) (λ z. record { a = a; z = z }) (entities modes history)
      ∙ sum_listed (lawful_one modes history a) (next_parent modes history)

  length_pairs : length (lawful_pairs modes history) ≡ total (λ a. length (pairs_with modes history a)) (next_parent modes history)
  unfolding lawful_pairs entities
  length_pairs =
      length_flatMap (pairs_with modes history) (entities modes history)
      ∙ sum_listed (λ a. length (pairs_with modes history a)) (next_parent modes history)

  ones : ℕ → ℕ
  ones = share modes history (λ entity. 1)

  module _ (a partner : ℕ) (a_open : is_open modes history a ≡ true) (p : Partner modes history a partner) where
    third_one : (z : ℕ) → lawful_one modes history a z ≡ without partner (without a ones) z
    unfolding lawful_one ones
    third_one z =
        ⊎_elim
        (λ e. unlawful (λ t. t.not_partner e) ∙ sym (rw e (without_here partner (without a ones))))
        (λ not_partner.
        rw (without_there partner (without a ones) z not_partner)
        (⊎_elim
        (λ e. unlawful (λ t. t.not_a e) ∙ sym (rw e (without_here a ones)))
        (λ not_a. rw (without_there a ones z not_a) (go not_partner not_a (is_open modes history z) refl))
        (same_or_not z a)))
        (same_or_not z partner)
      where
        triple : Triple
        triple = named modes history (record { a = a; z = z })

        unlawful : (Third modes history a partner z → ⊥) → lawful_one modes history a z ≡ 0
        unlawful not_third = ap one_if (unlawful_test modes history triple (λ l. not_third (p.third_lawful z l)))

        go : (z ≡ partner → ⊥) → (z ≡ a → ⊥) → (o : Bool) → is_open modes history z ≡ o → lawful_one modes history a z ≡ ones z
        go not_partner not_a true e =
            ap one_if (lawful_test modes history triple (p.lawful_third z (record { z_open = e; not_a = not_a; not_partner = not_partner })))
            ∙ sym (share_open modes history (λ entity. 1) z e)
        go not_partner not_a false e =
            unlawful (λ t. (let z : ◌≡◌ {A = ℕ} 0 1 = cc t.z_open in omega arith)) ∙ sym (share_closed modes history (λ entity. 1) z e)

    -- All open entities but two.
    thirds : length (pairs_with modes history a) + 2 ≡ open_sum modes history (λ entity. 1)
    unfolding open_sum ones
    thirds =
        let count = next_parent modes history in
        let counted = length_with a ∙ total_same (lawful_one modes history a) (without partner (without a ones)) count (λ z l. third_one z) in
        let no_a = total_apart ones count a (open_below modes history a a_open) in
        let no_partner = total_apart (without a ones) count partner (open_below modes history partner p.partner_open) in
        let at_a = share_open modes history (λ entity. 1) a a_open in
        let at_partner = without_there a ones partner p.apart ∙ share_open modes history (λ entity. 1) partner p.partner_open in
        omega arith

  unfit : (a : ℕ) → ((is_open modes history a ≡ true) × (z_end modes history a < 2 * modes) → ⊥) → length (pairs_with modes history a) ≡ 0
  unfolding lawful_one
  unfit a unfit_a =
      length_with a
      ∙ total_none (lawful_one modes history a) (next_parent modes history)
      (λ z l. (let pair : Pair = record { a = a; z = z } in
      ap one_if (unlawful_test modes history (named modes history pair) (λ t. unfit_a (first_fits modes history pair t)))))

  module _ (lawful : LawfulHistory modes history) (j : ℕ) (left : length history + j ≡ modes) where
    pub pairs_share : (a : ℕ) → length (pairs_with modes history a) ≡ share modes history (λ entity. (2 * j - 1) * mated modes history entity) a
    unfolding share mated
    pairs_share a = go (is_open modes history a) refl (ltb (z_end modes history a) (2 * modes)) refl
      where
        go : (o : Bool) → is_open modes history a ≡ o → (m : Bool) → ltb (z_end modes history a) (2 * modes) ≡ m
            → length (pairs_with modes history a) ≡ cond o ((2 * j - 1) * one_if m) 0
        go true e true f =
            let partner = has_partner modes history lawful a e (ltb-true (z_end modes history a) (2 * modes) f) in
            let counted = thirds a partner.0 e partner.1 in
            let number = open_count modes history lawful in
            rw (mul-one (2 * j - 1)) (omega arith)
        go true e false f =
            let above = ltb-false (z_end modes history a) (2 * modes) f in
            rw (mul-zero (2 * j - 1)) (unfit a (λ fit. omega (arith, fit.1)))
        go false e m f = unfit a (λ fit. (let z : ◌≡◌ {A = ℕ} 0 1 = cc fit.0 in omega arith))

    mated_count : open_sum modes history (mated modes history) ≡ 2 * j
    unfolding mated
    mated_count =
        let unmated : ℕ → ℕ = λ entity. same (z_end modes history entity) (2 * modes) in
        let both_kinds = open_add modes history (mated modes history) unmated in
        let each = open_same modes history (λ entity. mated modes history entity + unmated entity) (λ entity. 1) one_kind in
        let number = open_count modes history lawful in
        let once = unpaired_once modes history lawful in
        omega arith
      where
        one_kind : (entity : ℕ) → is_open modes history entity ≡ true → mated modes history entity + same (z_end modes history entity) (2 * modes) ≡ 1
        one_kind entity o =
            ⊎_elim
            (λ e. rw (same_one (z_end modes history entity) (2 * modes) e, le-ltb (z_end modes history entity) (2 * modes) (omega arith)) refl)
            (λ other.
            (let within = open_end_within modes history lawful entity o in
            rw (same_none (z_end modes history entity) (2 * modes) other, lt-ltb (z_end modes history entity) (2 * modes) (omega arith)) refl))
            (same_or_not (z_end modes history entity) (2 * modes))

    pub pair_count : length (lawful_pairs modes history) ≡ 2 * j * (2 * j - 1)
    unfolding open_sum
    pair_count =
        let shares = share modes history (λ entity. (2 * j - 1) * mated modes history entity) in
        length_pairs
        ∙ total_same (λ a. length (pairs_with modes history a)) shares (next_parent modes history) (λ a l. pairs_share a)
        ∙ open_times modes history (2 * j - 1) (mated modes history)
        ∙ ap (λ n. (2 * j - 1) * n) mated_count
        ∙ mul_comm (2 * j - 1) (2 * j)

    -- While a merge is to come there is a pair.
    pub some_pair : 1 ≤ j → 0 < length (lawful_pairs modes history)
    some_pair h = rw pair_count (mul-pos {m = 2 * j} {n = 2 * j - 1} (omega arith) (omega arith))
