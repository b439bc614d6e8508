-- With j merges left a step has j (2j - 1) lawful triples: j open entities can be its x, x decides y, and z is any open entity but the two.
use mathlib.Core.Path.{◌≡◌, refl, ap, ◌∙◌, sym}
use mathlib.Core.Bool.{Bool, true, false, cond}
use mathlib.Core.List.{List, [], ◌∷◌, map, flat_map}
use Prim.Native.Nat.{ℕ, suc, ◌+◌, ◌-◌, ◌*◌, ◌%◌, ◌<◌, ◌≤◌}
use native.Mathlib.Nat.{mul-one, mul-zero, mul_comm}
use native.Mathlib.Omega.{arith}
use borrow.Author.Tests.{eq-eqb, ne_eqb, eqb-true, eqb-false, lt-ltb, le-ltb, ltb-true, ltb-false}
use lib.Dec.{eqb, ltb}
use lib.ListN.{length}
use Rattle.lists.specs.Counting.{sum}
use Rattle.lists.proofs.Totals.{total, total_same, total_none, total_ones, total_single, total_pairs}
use Rattle.lists.proofs.Sums.{one_if, sum_of, sum_append, sum_map, sum_listed, length_keep}
use Rattle.entities.specs.declared.Triple.{Triple}
use Rattle.history.specs.History.{next_parent, is_open, z_end}
use Rattle.history.specs.Lawful.{Lawful, LawfulHistory}
use Rattle.history.specs.computed.Pairs.{holder, is_lawful, named, entities, pairs_with}
use Rattle.history.proofs.Holders.{open_below, stayed_end, parent_end, holds_end, mate_of_open}
use Rattle.history.proofs.OpenSums.{share, open_sum, share_open, share_closed, open_same, open_times, open_start, open_step}
use Rattle.history.proofs.PairCount.{mated, pairs_share}
use Rattle.history.proofs.Partners.{unlawful_test}
use Rattle.best.specs.Sequences.{triples, lawful_triples, step_count, StepCount}

sum_flatMap : {A B : Type 0} (weight : B → ℕ) (f : A → List B) (l : List A) → sum_of weight (flat_map f l) ≡ sum_of (λ a. sum_of weight (f a)) l
unfolding sum flat_map
sum_flatMap weight f [] = refl
sum_flatMap weight f (a ∷ l) = rw (sum_append weight (f a) (flat_map f l), sum_flatMap weight f l)

-- 1 for a z-end that an x may have, "an even 2k below 2n", else 0.
unfoldable even_end : ℕ → ℕ → ℕ
even_end modes end = cond (eqb (end % 2) 0) (one_if (ltb end (2 * modes))) 0

even_below : (modes end : ℕ) → end % 2 ≡ 0 → end < 2 * modes → even_end modes end ≡ 1
unfolding even_end
even_below modes end e h = rw (eq-eqb (end % 2) 0 e, lt-ltb end (2 * modes) h)

odd_end : (modes end : ℕ) → (end % 2 ≡ 0 → ⊥) → even_end modes end ≡ 0
unfolding even_end
odd_end modes end o = rw (ne_eqb (end % 2) 0 o)

end_above : (modes end : ℕ) → 2 * modes ≤ end → even_end modes end ≡ 0
unfolding even_end
end_above modes end h = rw (le-ltb end (2 * modes) h) (go (eqb (end % 2) 0))
  where
    go : (b : Bool) → cond {A = ℕ} b 0 0 ≡ 0
    go true = refl
    go false = refl

-- At first every even leaf but the last.
leaves_even : (modes : ℕ) → total (even_end modes) (2 * modes + 1) ≡ modes
unfolding total
leaves_even modes =
    let last = end_above modes (2 * modes) (omega arith) in
    let pairs =
    total_pairs (even_end modes) modes
    ∙ total_same (λ k. even_end modes (2 * k) + even_end modes (2 * k + 1)) (λ k. 1) modes
    (λ k h. omega (arith, even_below modes (2 * k) (omega arith) (omega arith), odd_end modes (2 * k + 1) (λ e. omega arith)))
    ∙ total_ones modes in
    let more : 2 * modes + 1 ≡ suc (2 * modes) = omega arith in
    rw more (omega arith)

-- Each merge takes one of them: its x; its z gives its end to the parent.
even_count : (modes : ℕ) (history : List Triple) → LawfulHistory modes history
    → open_sum modes history (λ entity. even_end modes (z_end modes history entity)) + length history ≡ modes
unfolding z_end
even_count modes [] lawful = rw (open_start modes (even_end modes)) (omega (arith, leaves_even modes))
even_count modes (merge ∷ history) lawful =
    let l = lawful.0 in
    let ends : List Triple → ℕ → ℕ = λ merges entity. even_end modes (z_end modes merges entity) in
    let stays : (entity : ℕ) → is_open modes history entity ≡ true → ends (merge ∷ history) entity ≡ ends history entity =
    λ entity o. ap (even_end modes) (stayed_end modes merge history entity o) in
    let step = open_step modes history merge l (ends (merge ∷ history)) in
    let rest = open_same modes history (ends (merge ∷ history)) (ends history) stays in
    let before = even_count modes history lawful.1 in
    let x = stays merge.x l.x_open ∙ even_below modes (z_end modes history merge.x) l.x_even l.x_below in
    let y = stays merge.y l.y_open ∙ odd_end modes (z_end modes history merge.y) (λ e. omega (arith, l.x_even, l.y_next)) in
    let z = stays merge.z l.z_open in
    let parent = ap (even_end modes) (parent_end modes merge history (next_parent modes history) refl) in
    omega arith

module _ (modes : ℕ) (history : List Triple) where
  -- 1 where the three are lawful, else 0.
  lawful_one : ℕ → ℕ → ℕ → ℕ
  lawful_one x y z = one_if (is_lawful modes history (record { x = x; y = y; z = z }))

  abbrev lawful_with : ℕ → ℕ
  lawful_with x = total (λ y. total (lawful_one x y) (next_parent modes history)) (next_parent modes history)

  length_lawful : length (lawful_triples modes history) ≡ total lawful_with (next_parent modes history)
  unfolding lawful_triples triples lawful_one entities
  length_lawful =
      let one : Triple → ℕ = λ triple. one_if (is_lawful modes history triple) in
      let all = entities modes history in
      let count = next_parent modes history in
      let by_z : (x y : ℕ) → sum_of one (map (λ z. record { x = x; y = y; z = z }) all) ≡ total (lawful_one x y) count =
      λ x y. sum_map one (λ z. record { x = x; y = y; z = z }) all ∙ sum_listed (lawful_one x y) count in
      let by_y : (x : ℕ) → sum_of one (flat_map (λ y. map (λ z. record { x = x; y = y; z = z }) all) all) ≡ lawful_with x =
      λ x.
      sum_flatMap one (λ y. map (λ z. record { x = x; y = y; z = z }) all) all
      ∙ sum_listed (λ y. sum_of one (map (λ z. record { x = x; y = y; z = z }) all)) count
      ∙ total_same (λ y. sum_of one (map (λ z. record { x = x; y = y; z = z }) all)) (λ y. total (lawful_one x y) count) count (λ y h. by_z x y) in
      length_keep (is_lawful modes history) (triples modes history)
      ∙ sum_flatMap one (λ x. flat_map (λ y. map (λ z. record { x = x; y = y; z = z }) all) all) all
      ∙ sum_listed (λ x. sum_of one (flat_map (λ y. map (λ z. record { x = x; y = y; z = z }) all) all)) count
      ∙ total_same (λ x. sum_of one (flat_map (λ y. map (λ z. record { x = x; y = y; z = z }) all) all)) lawful_with count (λ x h. by_y x)

  unlawful_one : (x y z : ℕ) → (Lawful modes history (record { x = x; y = y; z = z }) → ⊥) → lawful_one x y z ≡ 0
  unfolding lawful_one
  unlawful_one x y z unlawful = ap one_if (unlawful_test modes history (record { x = x; y = y; z = z }) unlawful)

  -- An entity that no lawful triple has for its x.
  never_x : (x : ℕ) → ((y z : ℕ) → Lawful modes history (record { x = x; y = y; z = z }) → ⊥) → lawful_with x ≡ 0
  never_x x never =
      let count = next_parent modes history in
      total_none (λ y. total (lawful_one x y) count) count
      (λ y h. total_none (lawful_one x y) count (λ z k. unlawful_one x y z (never y z)))

  module _ (lawful : LawfulHistory modes history) (j : ℕ) (left : length history + j ≡ modes) where
    -- What x decides: the y whose z-end follows x's.
    fitting_x : (x : ℕ) → is_open modes history x ≡ true → z_end modes history x % 2 ≡ 0 → z_end modes history x < 2 * modes
        → lawful_with x ≡ 2 * j - 1
    unfolding lawful_one pairs_with entities mated named
    fitting_x x o even below =
        let count = next_parent modes history in
        let mate = holder modes history (z_end modes history x + 1) in
        let held = mate_of_open modes history lawful x (z_end modes history x + 1) o below (omega arith) in
        let only = total_single (λ y. total (lawful_one x y) count) count mate (open_below modes history mate held.is_held)
        (λ y h apart. total_none (lawful_one x y) count
        (λ z k. unlawful_one x y z
        (λ l. apart (sym (holds_end modes history lawful y l.y_open) ∙ ap (holder modes history) l.y_next)))) in
        let thirds : length (pairs_with modes history x) ≡ total (lawful_one x mate) count =
        length_keep (λ pair. is_lawful modes history (named modes history pair)) (map (λ z. record { a = x; z = z }) (entities modes history))
        ∙ sum_map (λ pair. one_if (is_lawful modes history (named modes history pair))) (λ z. record { a = x; z = z }) (entities modes history)
        ∙ sum_listed (λ z. one_if (is_lawful modes history (named modes history (record { a = x; z = z })))) count
        ∙ total_same (λ z. one_if (is_lawful modes history (named modes history (record { a = x; z = z })))) (lawful_one x mate) count
        (λ z h. rw (eq-eqb (z_end modes history x % 2) 0 even)) in
        let shared = pairs_share modes history lawful j left x in
        let own : share modes history (λ entity. (2 * j - 1) * mated modes history entity) x ≡ 2 * j - 1 =
        share_open modes history (λ entity. (2 * j - 1) * mated modes history entity) x o
        ∙ rw (lt-ltb (z_end modes history x) (2 * modes) below) (mul-one (2 * j - 1)) in
        only ∙ sym thirds ∙ shared ∙ own

    with_share : (x : ℕ) → lawful_with x ≡ share modes history (λ entity. (2 * j - 1) * even_end modes (z_end modes history entity)) x
    with_share x = go (is_open modes history x) refl
      where
        value : ℕ → ℕ
        value entity = (2 * j - 1) * even_end modes (z_end modes history entity)

        ended : is_open modes history x ≡ true → (b : Bool) → eqb (z_end modes history x % 2) 0 ≡ b → (c : Bool) → ltb (z_end modes history x) (2 * modes) ≡ c
            → lawful_with x ≡ (2 * j - 1) * even_end modes (z_end modes history x)
        ended o true e true f =
            let even = eqb-true (z_end modes history x % 2) 0 e in
            let below = ltb-true (z_end modes history x) (2 * modes) f in
            rw (even_below modes (z_end modes history x) even below, mul-one (2 * j - 1)) (fitting_x x o even below)
        ended o true e false f =
            let above = ltb-false (z_end modes history x) (2 * modes) f in
            rw (end_above modes (z_end modes history x) above, mul-zero (2 * j - 1)) (never_x x (λ y z l. omega (arith, l.x_below)))
        ended o false e c f =
            let odd = eqb-false (z_end modes history x % 2) 0 e in
            rw (odd_end modes (z_end modes history x) odd, mul-zero (2 * j - 1)) (never_x x (λ y z l. odd l.x_even))

        go : (o : Bool) → is_open modes history x ≡ o → lawful_with x ≡ share modes history value x
        go true o =
            ended o (eqb (z_end modes history x % 2) 0) refl (ltb (z_end modes history x) (2 * modes)) refl ∙ sym (share_open modes history value x o)
        go false o =
            never_x x (λ y z l. (let w : ◌≡◌ {A = ℕ} 0 1 = cc l.x_open in omega arith)) ∙ sym (share_closed modes history value x o)

    counted_lawful : length (lawful_triples modes history) ≡ step_count j
    unfolding step_count open_sum
    counted_lawful =
        let evens : ℕ → ℕ = λ entity. even_end modes (z_end modes history entity) in
        let number : open_sum modes history evens ≡ j = omega (arith, even_count modes history lawful) in
        length_lawful
        ∙ total_same lawful_with (share modes history (λ entity. (2 * j - 1) * evens entity)) (next_parent modes history) (λ x h. with_share x)
        ∙ open_times modes history (2 * j - 1) evens
        ∙ ap (λ n. (2 * j - 1) * n) number
        ∙ mul_comm (2 * j - 1) j

pub step_counted : StepCount
step_counted modes history lawful j left = counted_lawful modes history lawful j left
