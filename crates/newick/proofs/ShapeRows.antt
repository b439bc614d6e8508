-- A shape whose numbers are in range: its names are coded as a table has them, and its rows are those of the nodes that stand in it.
use mathlib.Core.Path.{◌≡◌, refl}
use mathlib.Core.Bool.{Bool, true, false, ◌||◌}
use mathlib.Core.List.{List, [], ◌∷◌, ◌++◌, map, append_assoc, map-append}
use Prim.Native.Nat.{ℕ, ◌+◌, ◌*◌, ◌<◌, ◌≤◌}
use native.Mathlib.Omega.{arith}
use borrow.Author.Tests.{lt-ltb, le-ltb, le-leb, lt-leb, ne_eqb, ltb-true, leb-true}
use lib.Dec.{ltb}
use Rattle.lists.specs.Members.{every}
use Rattle.lists.proofs.Every.{every_cons, every_uncons, every_append, every_parts}
use Rattle.entities.specs.Codes.{absent}
use Rattle.tree.proofs.LaidTable.{Has}
use Rattle.newick.specs.Grammar.{Shape, leaf, none, node, numbers_fit}
use Rattle.newick.specs.Reading.{leaf_name, absent_name}
use Rattle.newick.specs.Names.{in_range, code_of}
use Rattle.newick.proofs.Shapes.{name_of, rows_in}
use Rattle.newick.proofs.SpelledRead.{node_fits}

-- The labels of a shape's nodes, children before their node.
unfoldable pub labels_in : Shape → List ℕ
labels_in (leaf number) = []
labels_in none = []
labels_in (node x y z label) = labels_in x ++ (labels_in y ++ (labels_in z ++ (label ∷ [])))

empty_passes : (test : ℕ → Bool) → every test [] ≡ true
unfolding every
empty_passes test = refl

module _ (modes : ℕ) where
  -- A child's code.
  unfoldable pub code_in : Shape → ℕ
  code_in (leaf number) = modes + number
  code_in none = absent
  code_in (node x y z label) = label

  -- Every label is below n, every leaf below 2n.
  unfoldable pub Within : Shape → Type 0
  Within (leaf number) = number < 2 * modes
  Within none = Unit {0}
  Within (node x y z label) = (label < modes) × Within x × Within y × Within z

  -- Every node of the shape stands in the table.
  unfoldable pub Stands : List ℕ → Shape → Type 0
  Stands table (leaf number) = Unit {0}
  Stands table none = Unit {0}
  Stands table (node x y z label) = Has table label (code_in x) (code_in y) (code_in z) × Stands table x × Stands table y × Stands table z

  module _ (small : 3 * modes ≤ 65535) where
    -- Such names are in range, and coded as they are in a table.
    name_coded : (shape : Shape) → Within shape → (code_of modes (name_of shape) ≡ code_in shape) × (in_range modes (name_of shape) ≡ true)
    unfolding Within name_of code_in code_of in_range leaf_name
    name_coded (leaf number) within = (
      rw (le-ltb (65536 + number) 65536 (omega arith), ne_eqb (65536 + number) absent_name (λ e. absurd (omega arith))) (omega arith),
      rw (
        le-ltb (65536 + number) modes (omega arith),
        le-leb 65536 (65536 + number) (omega arith),
        lt-ltb (65536 + number) (65536 + 2 * modes) (omega arith),
      ),
    )
    name_coded none within =
        (refl, rw (le-ltb absent_name modes (omega arith), le-ltb absent_name (65536 + 2 * modes) (omega arith)))
    name_coded (node x y z label) within =
        (rw (lt-ltb label 65536 (omega (arith, within.0))), rw (lt-ltb label modes within.0))

    -- A name in range is a label, a leaf or the absent child's.
    leaf_within : (number : ℕ) → number ≤ 65535 → in_range modes (leaf_name number) ≡ true → number < 2 * modes
    unfolding in_range leaf_name
    leaf_within number fits e =
        go (ltb (65536 + number) (65536 + 2 * modes)) refl
        (rw (le-ltb (65536 + number) modes (omega arith), le-leb 65536 (65536 + number) (omega arith), ne_eqb (65536 + number) absent_name (λ e. absurd (omega arith)))
        at e)
      where
        go : (b : Bool) → ltb (65536 + number) (65536 + 2 * modes) ≡ b → (ltb (65536 + number) (65536 + 2 * modes) || false) ≡ true → number < 2 * modes
        go true q f = let h = ltb-true (65536 + number) (65536 + 2 * modes) q in omega arith
        go false q f = let g = rw q at f in let z : ◌≡◌ {A = ℕ} 0 1 = cc in absurd (omega arith)

    label_within : (label : ℕ) → label ≤ 65535 → in_range modes label ≡ true → label < modes
    unfolding in_range
    label_within label fits e = go (ltb label modes) refl e
      where
        go : (b : Bool) → ltb label modes ≡ b → in_range modes label ≡ true → label < modes
        go true q f = ltb-true label modes q
        go false q f =
            let g = rw (q, lt-leb 65536 label (omega arith), ne_eqb label absent_name (λ e. absurd (omega arith))) at f in
            let z : ◌≡◌ {A = ℕ} 0 1 = cc in
            absurd (omega arith)

    own_code : (label : ℕ) → label < modes → code_of modes label ≡ label
    unfolding code_of
    own_code label h = rw (lt-ltb label 65536 (omega arith))

    -- A shape whose numbers fit and whose names are in range is within n.
    pub all_within : (shape : Shape) → numbers_fit shape ≡ true → in_range modes (name_of shape) ≡ true
        → every (in_range modes) (rows_in shape) ≡ true → Within shape
    unfolding Within name_of rows_in numbers_fit
    all_within (leaf number) fit here rows = leaf_within number (leb-true number 65535 fit) here
    all_within none fit here rows = tt
    all_within (node x y z label) fit here rows =
        let fits = node_fits x y z label fit in
        let row : List ℕ = label ∷ (name_of x ∷ (name_of y ∷ (name_of z ∷ []))) in
        let p = every_parts (in_range modes) (rows_in x) (rows_in y ++ (rows_in z ++ row)) rows in
        let q = every_parts (in_range modes) (rows_in y) (rows_in z ++ row) p.1 in
        let r = every_parts (in_range modes) (rows_in z) row q.1 in
        let a = every_uncons (in_range modes) label (name_of x ∷ (name_of y ∷ (name_of z ∷ []))) r.1 in
        let b = every_uncons (in_range modes) (name_of x) (name_of y ∷ (name_of z ∷ [])) a.1 in
        let c = every_uncons (in_range modes) (name_of y) (name_of z ∷ []) b.1 in
        let d = every_uncons (in_range modes) (name_of z) [] c.1 in (
          label_within label fits.3 a.0,
          all_within x fits.0 b.0 p.0,
          all_within y fits.1 c.0 q.0,
          all_within z fits.2 d.0 r.0,
        )

    -- And the other way round.
    pub rows_in_range : (shape : Shape) → Within shape → every (in_range modes) (rows_in shape) ≡ true
    unfolding Within rows_in name_of
    rows_in_range (leaf number) within = empty_passes (in_range modes)
    rows_in_range none within = empty_passes (in_range modes)
    rows_in_range (node x y z label) within =
        let test = in_range modes in
        every_append test (rows_in x) _ (rows_in_range x within.1)
        (every_append test (rows_in y) _ (rows_in_range y within.2)
        (every_append test (rows_in z) _ (rows_in_range z within.3)
        (every_cons test label _ (name_coded (node x y z label) within).1
        (every_cons test (name_of x) _ (name_coded x within.1).1
        (every_cons test (name_of y) _ (name_coded y within.2).1
        (every_cons test (name_of z) [] (name_coded z within.3).1 (empty_passes test)))))))

    -- A node's rows as they are coded, with others behind them.
    pub coded_rows : (x y z : Shape) (label : ℕ) (rest : List ℕ) → Within (node x y z label)
        → map (code_of modes) (rows_in (node x y z label)) ++ rest
        ≡ map (code_of modes) (rows_in x)
        ++ (map (code_of modes) (rows_in y)
        ++ (map (code_of modes) (rows_in z) ++ (label ∷ (code_in x ∷ (code_in y ∷ (code_in z ∷ rest))))))
    unfolding rows_in Within
    coded_rows x y z label rest within =
        let code = code_of modes in
        let here : code label ≡ label = own_code label within.0 in
        let coded_x = (name_coded x within.1).0 in
        let coded_y = (name_coded y within.2).0 in
        let coded_z = (name_coded z within.3).0 in
        simp (map-append, append_assoc, here, coded_x, coded_y, coded_z)
