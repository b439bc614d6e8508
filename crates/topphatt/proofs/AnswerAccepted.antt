-- The answer of an assignment is itself an accepted tree: its nodes hang together as in the given tree, each leaf stands once, and the leaves
-- of a pair became the leaves of the pair's mode, so that they still end the z-chains from one node's X and Y children.
use Rattle.std.specs.Prelude.{Ok}
use mathlib.Core.Path.{◌≡◌, refl, ap, ◌∙◌, sym}
use mathlib.Core.Bool.{Bool, true, false, cond, ◌||◌}
use mathlib.Core.List.{List}
use Prim.Native.Nat.{ℕ, zero, suc, ◌+◌, ◌*◌, ◌<◌, ◌≤◌}
use native.Mathlib.Omega.{arith}
use borrow.Author.Tests.{lt-ltb, le-ltb, eq-eqb, eqb-true, ltb-true, ltb-false}
use lib.Dec.{eqb, ltb}
use lib.ListN.{length, get_or}
use Rattle.lists.specs.Counting.{same, occurrences}
use Rattle.lists.proofs.Leading.{leading_all}
use Rattle.lists.proofs.Sums.{same_none}
use Rattle.lists.proofs.Replaced.{occurrences_map, place_of_member}
use Rattle.entities.specs.Codes.{absent}
use Rattle.tree.specs.Table.{child, place_of_code, parent_of, climb}
use Rattle.tree.specs.OneTree.{root_of}
use Rattle.tree.specs.Pairs.{chain_end}
use Rattle.tree.specs.Check.{codes_good, tree_checked}
use Rattle.tree.specs.Accepted.{PairUnder}
use Rattle.tree.proofs.AcceptedParts.{accepted_parts, parts_accepted}
use Rattle.tree.proofs.Standing.{place_mapped}
use Rattle.tree.proofs.OneTreeSays.{OneTreeSays, says_one_tree, parent_below}
use Rattle.tree.proofs.AcceptedTree.{accepted_says, pairs_lead}
use Rattle.tree.proofs.TableSteps.{code_good}
use Rattle.tree.proofs.EachHosts.{host, host_pair}
use Rattle.slots.specs.Slots.{pair_of, parity_of}
use Rattle.slots.proofs.SlotCases.{even_pair, odd_pair, even_parity, odd_parity}
use Rattle.topphatt.specs.Answer.{answer_table}
use Rattle.topphatt.specs.Assignment.{AllAssigned}
use Rattle.topphatt.proofs.AnswerShape.{relabelled, node_kept, absent_kept, mode_of, mode_below, leaf_relabelled, answer_at, answer_length, pair_with, node_same, node_counts, answer_shape}

module _ (modes : ℕ) (table assigned : List ℕ) (all : AllAssigned modes table assigned) (fits : 3 * modes ≤ absent) where
  answer : List ℕ
  answer = answer_table modes assigned table

  node_test : (node given : ℕ) → node < modes → eqb (relabelled modes assigned given) node ≡ eqb given node
  unfolding same
  node_test node given h = go (eqb (relabelled modes assigned given) node) (eqb given node) (node_same modes table assigned all fits node given h)
    where
      go : (a b : Bool) → cond {A = ℕ} a 1 0 ≡ cond b 1 0 → a ≡ b
      go true true e = refl
      go false false e = refl
      go true false e = absurd (omega arith)
      go false true e = absurd (omega arith)

  same_place : (node : ℕ) → node < modes → place_of_code answer node ≡ place_of_code table node
  unfolding answer answer_table relabelled
  same_place node h = place_mapped (relabelled modes assigned) node table (λ given. node_test node given h)

  answer_long : length answer ≡ length table
  unfolding answer
  answer_long = answer_length modes table assigned all fits

  same_parent : (node : ℕ) → node < modes → parent_of answer node ≡ parent_of table node
  unfolding parent_of
  same_parent node h = rw (same_place node h, answer_long)

  child_relabelled : (node edge : ℕ) → child answer node edge ≡ relabelled modes assigned (child table node edge)
  unfolding child answer
  child_relabelled node edge = answer_at modes table assigned all fits (3 * node + edge)

  same_node : (given : ℕ) → ltb (relabelled modes assigned given) modes ≡ ltb given modes
  same_node given = go (ltb given modes) refl (ltb given (3 * modes)) refl
    where
      go : (n : Bool) → ltb given modes ≡ n → (l : Bool) → ltb given (3 * modes) ≡ l → ltb (relabelled modes assigned given) modes ≡ n
      go true q l r = rw (node_kept modes table assigned all fits given (ltb-true given modes q)) q
      go false q true r =
          let low = ltb-false given modes q in
          le-ltb (relabelled modes assigned given) modes
          (omega (arith, leaf_relabelled modes table assigned all fits given low (ltb-true given (3 * modes) r)))
      go false q false r =
          le-ltb (relabelled modes assigned given) modes (omega (arith, absent_kept modes table assigned all fits given (ltb-false given (3 * modes) r)))

  -- The z-chain from what a code became ends in what its end became.
  chain_relabelled : (steps given : ℕ) → chain_end modes answer steps (relabelled modes assigned given) ≡ relabelled modes assigned (chain_end modes table steps given)
  unfolding chain_end
  chain_relabelled zero given = refl
  chain_relabelled (suc steps) given = go (ltb given modes) refl (chain_relabelled steps)
    where
      go : (n : Bool) → ltb given modes ≡ n
          → ((other : ℕ) → chain_end modes answer steps (relabelled modes assigned other) ≡ relabelled modes assigned (chain_end modes table steps other))
          → chain_end modes answer (suc steps) (relabelled modes assigned given) ≡ relabelled modes assigned (chain_end modes table (suc steps) given)
      go true q on =
          rw (same_node given, q, node_kept modes table assigned all fits given (ltb-true given modes q), child_relabelled given 2)
          (on (child table given 2))
      go false q on = rw (same_node given, q) (on given)

  -- A leaf of a pair becomes that of the pair's mode.
  leaf_now : (given k mode : ℕ) → modes ≤ given → given < 3 * modes → pair_of modes given ≡ k → get_or assigned k modes ≡ mode
      → relabelled modes assigned given ≡ modes + 2 * mode + parity_of modes given
  unfolding mode_of
  leaf_now given k mode low high pair e =
      let has : mode_of modes table assigned all fits given ≡ mode = ap (λ j. get_or assigned j modes) pair ∙ e in
      omega (arith, leaf_relabelled modes table assigned all fits given low high)

  module _ (most : ℕ) (accepted : tree_checked most modes table ≡ Ok tt) where
    same_climb : (steps node : ℕ) → node < modes → climb answer steps node ≡ climb table steps node
    unfolding climb
    same_climb zero node h = refl
    same_climb (suc steps) node h =
        rw (same_parent node h)
        (same_climb steps (parent_of table node) (parent_below modes table (accepted_parts most modes table accepted).whole node h))

    -- What a code of the table becomes is a code of a table.
    known_still : (given : ℕ) → (ltb given (3 * modes) || eqb given absent) ≡ true
        → (ltb (relabelled modes assigned given) (3 * modes) || eqb (relabelled modes assigned given) absent) ≡ true
    unfolding parity_of
    known_still given ok = go (ltb given modes) refl (ltb given (3 * modes)) refl
      where
        low_known : (v : ℕ) → v < 3 * modes → (ltb v (3 * modes) || eqb v absent) ≡ true
        low_known v h = rw (lt-ltb v (3 * modes) h)

        go : (n : Bool) → ltb given modes ≡ n → (l : Bool) → ltb given (3 * modes) ≡ l
            → (ltb (relabelled modes assigned given) (3 * modes) || eqb (relabelled modes assigned given) absent) ≡ true
        go true q l r = let h = ltb-true given modes q in low_known _ (omega (arith, node_kept modes table assigned all fits given h))
        go false q true r =
            let low = ltb-false given modes q in
            let high = ltb-true given (3 * modes) r in
            low_known _
            (omega (arith, leaf_relabelled modes table assigned all fits given low high, mode_below modes table assigned all fits given low high))
        go false q false r =
            let high = ltb-false given (3 * modes) r in
            rw
            (absent_kept modes table assigned all fits given high, eq-eqb absent absent refl, le-ltb absent (3 * modes) fits)

    absent_same : (given : ℕ) → (ltb given (3 * modes) || eqb given absent) ≡ true → same (relabelled modes assigned given) absent ≡ same given absent
    unfolding parity_of
    absent_same given ok = go (ltb given modes) refl (ltb given (3 * modes)) refl
      where
        go : (n : Bool) → ltb given modes ≡ n → (l : Bool) → ltb given (3 * modes) ≡ l → same (relabelled modes assigned given) absent ≡ same given absent
        go true q l r = rw (node_kept modes table assigned all fits given (ltb-true given modes q))
        go false q true r =
            let low = ltb-false given modes q in
            let high = ltb-true given (3 * modes) r in
            same_none (relabelled modes assigned given) absent
            (λ e.
            absurd
            (omega (arith, leaf_relabelled modes table assigned all fits given low high, mode_below modes table assigned all fits given low high)))
            ∙ sym (same_none given absent (λ e. absurd (omega arith)))
        go false q false r =
            rw (absent_kept modes table assigned all fits given (ltb-false given (3 * modes) r), eqb-true given absent (rw r at ok))

    absent_counts : occurrences absent answer ≡ occurrences absent table
    unfolding answer answer_table relabelled
    absent_counts =
        occurrences_map (relabelled modes assigned) absent absent table
        (λ given m.
        let at = place_of_member given table absent m in
        absent_same given (rw at.2 at (code_good modes table (accepted_parts most modes table accepted).good at.0 at.1)))

    answer_says : OneTreeSays modes answer (root_of modes table)
    unfolding answer
    answer_says =
        let says = accepted_says most modes table accepted in
        let shape = answer_shape modes table assigned all fits most accepted in
        record {
          inside = says.inside;
          top = node_counts modes table assigned all fits (root_of modes table) says.inside ∙ says.top;
          node_once = λ node h other. node_counts modes table assigned all fits node h ∙ says.node_once node h other;
          leaf_once = shape.leaf_once;
          absent_once = absent_counts ∙ says.absent_once;
          reached = λ node h. same_climb modes node h ∙ says.reached node h;
        }

    -- The pair of a mode hangs under the node of the pair that has the mode.
    answer_pairs : (mode : ℕ) → mode < modes → (node : ℕ) × PairUnder modes answer mode node
    answer_pairs mode h =
        let from = pair_with modes table assigned all fits mode h in
        let k = from.0 in
        let pair = host_pair most modes table accepted k from.1 in (
          host modes table k,
          record {
            inside = pair.inside;
            even = rw (child_relabelled (host modes table k) 0, chain_relabelled modes (child table (host modes table k) 0), pair.even)
                (omega (arith, leaf_now (modes + 2 * k) k mode (omega arith) (omega (arith, from.1)) (even_pair modes k) from.2, even_parity modes k));
            odd = rw (child_relabelled (host modes table k) 1, chain_relabelled modes (child table (host modes table k) 1), pair.odd)
                (omega (arith, leaf_now (modes + 2 * k + 1) k mode (omega arith) (omega (arith, from.1)) (odd_pair modes k) from.2, odd_parity modes k));
          },
        )

    pub answer_accepted : tree_checked most modes (answer_table modes assigned table) ≡ Ok tt
    unfolding answer codes_good
    answer_accepted =
        let parts = accepted_parts most modes table accepted in
        parts_accepted most modes (answer_table modes assigned table)
        (record {
          some = parts.some;
          few = parts.few;
          whole = answer_long ∙ parts.whole;
          good =
              omega (
                arith,
                leading_all (λ given. ltb given (3 * modes) || eqb given absent) (answer_table modes assigned table) absent
                    (λ i h. rw (answer_at modes table assigned all fits i) (known_still (get_or table i absent) (code_good modes table parts.good i (omega (arith, answer_long))))),
              );
          one = says_one_tree modes answer (root_of modes table) answer_says;
          right = omega (arith, pairs_lead modes answer answer_pairs);
        })
