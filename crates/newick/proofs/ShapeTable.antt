-- A shape and the table in which its nodes stand: each is the other's, by the rows that both have.
use mathlib.Core.Path.{◌≡◌, refl, ◌∙◌}
use mathlib.Core.Bool.{Bool, true}
use mathlib.Core.List.{List, [], ◌∷◌, ◌++◌, map, append_assoc}
use Prim.Native.Nat.{ℕ, zero, suc, ◌+◌, ◌-◌, ◌*◌, ◌≤◌}
use native.Mathlib.Omega.{arith}
use borrow.Author.Tests.{le-leb, lt-ltb, ne_eqb}
use lib.Dec.{ltb}
use lib.ListN.{length, length-append}
use Rattle.lists.specs.Members.{every}
use Rattle.lists.proofs.Every.{every_cons, every_append}
use Rattle.entities.specs.Codes.{absent}
use Rattle.tree.proofs.LaidTable.{labels_of, HasAll}
use Rattle.newick.specs.Grammar.{Shape, leaf, none, node, numbers_fit}
use Rattle.newick.specs.Writing.{end_shape, shape_under}
use Rattle.newick.specs.Names.{code_of}
use Rattle.newick.proofs.Shapes.{rows_in}
use Rattle.newick.proofs.ShapeText.{shape_end, shape_node}
use Rattle.newick.proofs.SpelledRead.{rows_length}
use Rattle.newick.proofs.ShapeRows.{labels_in, code_in, Within, Stands, coded_rows}

length_labels : (x y z : Shape) (label : ℕ)
    → length (labels_in (node x y z label)) ≡ length (labels_in x) + (length (labels_in y) + (length (labels_in z) + 1))
unfolding labels_in
length_labels x y z label = simp length-append (omega arith)

-- Four numbers a node.
pub rows_count : (shape : Shape) → length (rows_in shape) ≡ 4 * length (labels_in shape)
unfolding rows_in labels_in
rows_count (leaf number) = refl
rows_count none = refl
rows_count (node x y z label) =
    omega (arith, rows_length x y z label, length_labels x y z label, rows_count x, rows_count y, rows_count z)

-- What is within n fits a number of the journal.
pub within_fits : (modes : ℕ) → 3 * modes ≤ 65535 → (shape : Shape) → Within modes shape → numbers_fit shape ≡ true
unfolding Within numbers_fit
within_fits modes small (leaf number) within = le-leb number 65535 (omega arith)
within_fits modes small none within = refl
within_fits modes small (node x y z label) within =
    rw (
      within_fits modes small x within.1,
      within_fits modes small y within.2,
      within_fits modes small z within.3,
      le-leb label 65535 (omega (arith, within.0)),
    )

pub labels_below : (modes : ℕ) (shape : Shape) → Within modes shape → every (λ label. ltb label modes) (labels_in shape) ≡ true
unfolding Within labels_in every
labels_below modes (leaf number) within = refl
labels_below modes none within = refl
labels_below modes (node x y z label) within =
    let test : ℕ → Bool = λ label. ltb label modes in
    every_append test (labels_in x) _ (labels_below modes x within.1)
    (every_append test (labels_in y) _ (labels_below modes y within.2)
    (every_append test (labels_in z) (label ∷ []) (labels_below modes z within.3) (every_cons test label [] (lt-ltb label modes within.0) refl)))

alike : {a b c x y z : Shape} (label : ℕ) → a ≡ x → b ≡ y → c ≡ z → node a b c label ≡ node x y z label
alike label p q r = rw (p, q, r)

module _ (modes : ℕ) (small : 3 * modes ≤ 65535) where
  -- A table has a shape's rows where its nodes stand in it.
  pub stands_rows : (table : List ℕ) (shape : Shape) → Within modes shape → Stands modes table shape → (rest : List ℕ) → HasAll table rest
      → HasAll table (map (code_of modes) (rows_in shape) ++ rest)
  unfolding rows_in Stands Within HasAll
  stands_rows table (leaf number) within stands rest has = has
  stands_rows table none within stands rest has = has
  stands_rows table (node x y z label) within stands rest has =
      rw (coded_rows modes small x y z label rest within)
      (stands_rows table x within.1 stands.1 _
      (stands_rows table y within.2 stands.2 _ (stands_rows table z within.3 stands.3 _ (stands.0, has))))

  pub rows_stand : (table : List ℕ) (shape : Shape) → Within modes shape → (rest : List ℕ)
      → HasAll table (map (code_of modes) (rows_in shape) ++ rest) → Stands modes table shape × HasAll table rest
  unfolding rows_in Stands Within HasAll
  rows_stand table (leaf number) within rest has = (tt, has)
  rows_stand table none within rest has = (tt, has)
  rows_stand table (node x y z label) within rest has =
      let p = rows_stand table x within.1 _ (rw (coded_rows modes small x y z label rest within) at has) in
      let q = rows_stand table y within.2 _ p.1 in
      let r = rows_stand table z within.3 _ q.1 in
      ((r.1.0, p.0, q.0, r.0), r.1.1)

  -- The labels of a shape's rows are the shape's.
  pub row_labels : (shape : Shape) → Within modes shape → (rest : List ℕ)
      → labels_of (map (code_of modes) (rows_in shape) ++ rest) ≡ labels_in shape ++ labels_of rest
  unfolding rows_in Within labels_in labels_of
  row_labels (leaf number) within rest = refl
  row_labels none within rest = refl
  row_labels (node x y z label) within rest =
      let last : List ℕ → List ℕ = λ l. label ∷ (code_in modes x ∷ (code_in modes y ∷ (code_in modes z ∷ l))) in
      rw (
        coded_rows modes small x y z label rest within,
        row_labels x within.1 (map (code_of modes) (rows_in y) ++ (map (code_of modes) (rows_in z) ++ last rest)),
        row_labels y within.2 (map (code_of modes) (rows_in z) ++ last rest),
        row_labels z within.3 (last rest),
      )
      (simp append_assoc)

  -- Going down a table from a shape's code gives the shape, where its nodes stand in the table.
  pub stands_under : (table : List ℕ) (shape : Shape) → Within modes shape → Stands modes table shape → (height : ℕ)
      → length (labels_in shape) ≤ height → shape_under modes table height (code_in modes shape) ≡ shape
  unfolding Within Stands labels_in code_in end_shape
  stands_under table (leaf number) within stands height high =
      let own : modes + number - modes ≡ number = omega arith in
      shape_end modes table height (modes + number) (omega arith) ∙ rw (ne_eqb (modes + number) absent (λ e. absurd (omega arith)), own)
  stands_under table none within stands height high = shape_end modes table height absent (omega arith)
  stands_under table (node x y z label) within stands zero high =
      absurd (omega (arith, length_labels x y z label))
  stands_under table (node x y z label) within stands (suc height) high =
      let room = length_labels x y z label in
      let here = stands.0 in
      shape_node modes table height label within.0
      ∙ rw (here.x_is, here.y_is, here.z_is)
      (alike label (stands_under table x within.1 stands.1 height (omega (arith, room)))
      (stands_under table y within.2 stands.2 height (omega (arith, room)))
      (stands_under table z within.3 stands.3 height (omega (arith, room))))
