-- The text of an accepted tree has the length that its modes say, whatever the tree.
use Rattle.std.specs.Prelude.{Ok}
use mathlib.Core.Path.{◌≡◌, refl, ap, ◌∙◌}
use mathlib.Core.Bool.{Bool, true, false, cond, and-eq-true_iff, ◌||◌}
use mathlib.Core.List.{List, [], ◌∷◌, ◌++◌}
use Prim.Native.Nat.{ℕ, zero, suc, ◌+◌, ◌-◌, ◌*◌, ◌<◌, ◌≤◌}
use native.Mathlib.Omega.{arith}
use borrow.Author.Tests.{lt-ltb, le-ltb, ltb-true, ltb-false, leb-true}
use lib.Dec.{eqb, ltb}
use lib.ListN.{length, length-append}
use Rattle.lists.specs.Counting.{sum}
use Rattle.lists.specs.Members.{every}
use Rattle.lists.proofs.Every.{every_cons, every_append}
use Rattle.lists.proofs.Totals.{total, total_same, total_add, total_parts, total_pairs}
use Rattle.lists.proofs.Sums.{sum_of, sum_append, sum_listed}
use Rattle.lists.proofs.SumOnce.{sum_once}
use Rattle.entities.specs.Codes.{absent}
use Rattle.fields.specs.Decimal.{decimal}
use Rattle.tree.specs.Table.{nodes, child}
use Rattle.tree.specs.OneTree.{root_of}
use Rattle.tree.specs.Check.{codes_good, tree_checked}
use Rattle.tree.specs.Accepted.{under}
use Rattle.tree.proofs.TableSteps.{code_good}
use Rattle.tree.proofs.AcceptedParts.{accepted_parts}
use Rattle.tree.proofs.AcceptedTree.{accepted_tree}
use Rattle.newick.specs.Grammar.{spelled}
use Rattle.newick.specs.Writing.{end_shape, shape_under, newick_text, mode_length, text_length}
use Rattle.newick.proofs.ShapeText.{end_absent, end_leaf, shape_end, under_length}
use Rattle.newick.proofs.WholeUnder.{whole_under, accepted_whole}

-- What a code adds to the text: a node its four marks, `n` and its label, any other its own text.
unfoldable part_length : ℕ → ℕ → ℕ
part_length modes code = cond (ltb code modes) (5 + length (decimal code)) (length (spelled (end_shape modes code)))

part_node : (modes code : ℕ) → code < modes → part_length modes code ≡ 5 + length (decimal code)
unfolding part_length
part_node modes code h = rw (lt-ltb code modes h)

part_end : (modes code : ℕ) → modes ≤ code → part_length modes code ≡ length (spelled (end_shape modes code))
unfolding part_length
part_end modes code h = rw (le-ltb code modes h)

module _ (modes : ℕ) (table : List ℕ) where
  -- The codes met under an end and under a node.
  under_end : (height code : ℕ) → modes ≤ code → under modes table height code ≡ code ∷ []
  unfolding under
  under_end zero code h = rw (le-ltb code modes h)
  under_end (suc height) code h = rw (le-ltb code modes h)

  under_node : (height code : ℕ) → code < modes
      → under modes table (suc height) code
      ≡ code
      ∷ (under modes table height (child table code 0)
      ++ (under modes table height (child table code 1) ++ under modes table height (child table code 2)))
  unfolding under
  under_node height code h = rw (lt-ltb code modes h)

  whole_node : (height code : ℕ) → code < modes → whole_under modes table (suc height) code ≡ true
      → (whole_under modes table height (child table code 0) ≡ true)
      × ((whole_under modes table height (child table code 1) ≡ true) × (whole_under modes table height (child table code 2) ≡ true))
  unfolding whole_under
  whole_node height code h e =
      let both = (and-eq-true_iff (whole_under modes table height (child table code 0)) _).0 (rw (lt-ltb code modes h) at e) in
      (both.0, (and-eq-true_iff (whole_under modes table height (child table code 1)) _).0 both.1)

  -- Under an end the text is its own.
  end_sum : (height code : ℕ) → modes ≤ code
      → length (spelled (shape_under modes table height code)) ≡ sum_of (part_length modes) (under modes table height code)
  unfolding sum
  end_sum height code h = rw (shape_end modes table height code h, under_end height code h) (omega (arith, part_end modes code h))

  abbrev met : ℕ → ℕ → ℕ → List ℕ
  met height code edge = under modes table height (child table code edge)

  abbrev Summed : ℕ → ℕ → Type 0
  Summed height code =
      whole_under modes table height code ≡ true
      → length (spelled (shape_under modes table height code)) ≡ sum_of (part_length modes) (under modes table height code)

  -- Where no node is met with no height left, the text is as long as the parts that are met.
  under_sum : (height code : ℕ) → whole_under modes table height code ≡ true
      → length (spelled (shape_under modes table height code)) ≡ sum_of (part_length modes) (under modes table height code)
  unfolding whole_under sum
  under_sum zero code whole = end_sum zero code (leb-true modes code whole)
  under_sum (suc height) code whole =
      go (ltb code modes) refl (under_sum height (child table code 0)) (under_sum height (child table code 1)) (under_sum height (child table code 2))
    where
      go : (b : Bool) → ltb code modes ≡ b → Summed height (child table code 0) → Summed height (child table code 1)
          → Summed height (child table code 2)
          → length (spelled (shape_under modes table (suc height) code)) ≡ sum_of (part_length modes) (under modes table (suc height) code)
      go true q x y z =
          let low = ltb-true code modes q in
          let all = whole_node height code low whole in
          rw (under_node height code low)
          (omega (
            arith,
            under_length modes table height code low,
            part_node modes code low,
            sum_append (part_length modes) (met height code 0) (met height code 1 ++ met height code 2),
            sum_append (part_length modes) (met height code 1) (met height code 2),
            x all.0,
            y all.1.0,
            z all.1.1,
          ))
      go false q x y z = end_sum (suc height) code (ltb-false code modes q)

  -- Every code that is met is good, since the table's codes are.
  abbrev good : ℕ → Bool
  good code = ltb code (3 * modes) || eqb code absent

  abbrev Good : ℕ → ℕ → Type 0
  Good height code = good code ≡ true → every good (under modes table height code) ≡ true

  module _ (size : length table ≡ 3 * modes) (codes : length table ≤ codes_good modes table) where
    child_good : (code edge : ℕ) → code < modes → edge < 3 → good (child table code edge) ≡ true
    unfolding child
    child_good code edge h k = code_good modes table codes (3 * code + edge) (omega arith)

    under_good : (height code : ℕ) → good code ≡ true → every good (under modes table height code) ≡ true
    unfolding under every
    under_good zero code g = go (ltb code modes)
      where
        go : (b : Bool) → every good (cond b [] (code ∷ [])) ≡ true
        go true = refl
        go false = every_cons good code [] g refl
    under_good (suc height) code g =
        go (ltb code modes) refl (under_good height (child table code 0)) (under_good height (child table code 1))
        (under_good height (child table code 2))
      where
        go : (b : Bool) → ltb code modes ≡ b → Good height (child table code 0) → Good height (child table code 1)
            → Good height (child table code 2)
            → every good (code ∷ cond b (met height code 0 ++ (met height code 1 ++ met height code 2)) []) ≡ true
        go true q x y z =
            let low = ltb-true code modes q in
            every_cons good code (met height code 0 ++ (met height code 1 ++ met height code 2)) g
            (every_append good (met height code 0) (met height code 1 ++ met height code 2) (x (child_good code 0 low (omega arith)))
            (every_append good (met height code 1) (met height code 2) (y (child_good code 1 low (omega arith))) (z (child_good code 2 low (omega arith)))))
        go false q x y z = every_cons good code [] g refl

-- The parts of all codes are the modes' lengths, and one byte for the absent child.
module _ (modes : ℕ) (fits : 3 * modes ≤ absent) where
  leaf_length : (k : ℕ) → k < 2 * modes → part_length modes (modes + k) ≡ 1 + length (decimal k)
  leaf_length k h =
      let e : modes + k - modes ≡ k = omega arith in
      part_end modes (modes + k) (omega arith)
      ∙ ap length (end_leaf modes (modes + k) (λ q. omega arith))
      ∙ rw e (omega arith)

  absent_length : part_length modes absent ≡ 1
  absent_length = part_end modes absent (omega arith) ∙ ap length (end_absent modes absent refl)

  parts_total : total (part_length modes) (3 * modes) ≡ total mode_length modes
  unfolding mode_length
  parts_total =
      let node_part : ℕ → ℕ = λ k. 5 + length (decimal k) in
      let leaf_part : ℕ → ℕ = λ k. 1 + length (decimal k) in
      let pair_part : ℕ → ℕ = λ k. leaf_part (2 * k) + leaf_part (2 * k + 1) in
      let e : 3 * modes ≡ modes + 2 * modes = omega arith in
      let front : total (part_length modes) modes ≡ total node_part modes =
      total_same (part_length modes) node_part modes (part_node modes) in
      let behind : total (λ k. part_length modes (modes + k)) (2 * modes) ≡ total pair_part modes =
      total_same (λ k. part_length modes (modes + k)) leaf_part (2 * modes) leaf_length ∙ total_pairs leaf_part modes in
      let both : total (λ k. node_part k + pair_part k) modes ≡ total mode_length modes =
      total_same (λ k. node_part k + pair_part k) mode_length modes (λ k h. omega arith) in
      rw e
      (omega (arith, total_parts (part_length modes) modes (2 * modes), front, behind, total_add node_part pair_part modes, both))

module _ (most modes : ℕ) (table : List ℕ) (fits : 3 * modes ≤ 65535) (accepted : tree_checked most modes table ≡ Ok tt) where
  pub accepted_length : length (newick_text modes table) ≡ text_length modes
  unfolding newick_text text_length nodes
  accepted_length =
      let parts = accepted_parts most modes table accepted in
      let tree = accepted_tree most modes table accepted in
      let root = root_of modes table in
      let low : ltb root (3 * modes) ≡ true = lt-ltb root (3 * modes) (omega (arith, tree.inside)) in
      let all = under_good modes table parts.whole parts.good (suc modes) root (rw low) in
      omega (
        arith,
        length-append (spelled (shape_under modes table (suc modes) root)) (59 ∷ []),
        under_sum modes table (suc modes) root (accepted_whole most modes table accepted),
        sum_once (part_length modes) (3 * modes) absent fits (under modes table (suc modes) root) all tree.each_once tree.absent_once,
        parts_total modes fits,
        absent_length modes fits,
        sum_listed mode_length modes,
      )
