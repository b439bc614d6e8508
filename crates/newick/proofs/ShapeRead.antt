-- What is read stands in the text as it would be spelled.
use mathlib.Core.Path.{◌≡◌, refl, ◌∙◌, sym}
use mathlib.Core.Bool.{Bool, true, false, cond}
use mathlib.Core.List.{List, [], ◌∷◌, ◌++◌, append-nil, append_assoc}
use Prim.Native.Nat.{ℕ, zero, suc, ◌*◌, ◌≤◌}
use native.Mathlib.Omega.{arith}
use borrow.Author.Tests.{le-leb}
use lib.Dec.{ltb}
use lib.ListN.{length, drop}
use Rattle.fields.specs.Decimal.{decimal}
use Rattle.newick.specs.Grammar.{Shape, leaf, none, node, spelled, numbers_fit, is_node}
use Rattle.newick.specs.Reading.{Reading, got, crowded, leaf_name, absent_name, byte_at, child_by, inside}
use Rattle.newick.specs.code.Within.{child_within, node_within}
use Rattle.newick.proofs.Shapes.{name_of, rows_in}
use Rattle.newick.proofs.DigitsStand.{NumberStands, byte_stands}
use Rattle.newick.proofs.ReadingParts.{expected_got, inside_got, ChildWay, absent_read, leaf_read, leaf_lacks, node_next, child_way}

-- From one place to another the text spells a shape, whose rows come behind those before.
pub record ShapeRead (text rows : List ℕ) (at name : ℕ) (after : List ℕ) (end : ℕ) : Type 0 where
  pub shape : Shape
  pub numbers : numbers_fit shape ≡ true
  pub ahead : drop at text ≡ spelled shape ++ drop end text
  pub behind : at ≤ end
  pub within : end ≤ length text
  pub name_is : name ≡ name_of shape
  pub rows_are : after ≡ rows ++ rows_in shape

-- Whatever a reader of children reads in a text is spelled there.
abbrev Spelled : (List ℕ → ℕ → Reading) → List ℕ → Type 0
Spelled read text =
    (rows : List ℕ) (at name : ℕ) (after : List ℕ) (end : ℕ) → read rows at ≡ got name after end → ShapeRead text rows at name after end

module _ (text rows : List ℕ) (at : ℕ) where
  absent_spelled : byte_at text at ≡ 101 → ShapeRead text rows at absent_name rows (suc at)
  unfolding spelled numbers_fit name_of rows_in
  absent_spelled e =
      let s = byte_stands text at 101 e (omega arith) in
      record {
        shape = none;
        numbers = refl;
        ahead = s.1;
        behind = omega arith;
        within = s.0;
        name_is = refl;
        rows_are = sym (append-nil rows);
      }

  leaf_spelled : (number end : ℕ) → byte_at text at ≡ 109 → NumberStands text (suc at) number end → ShapeRead text rows at (leaf_name number) rows end
  unfolding spelled numbers_fit name_of rows_in
  leaf_spelled number end e n =
      let s = byte_stands text at 109 e (omega arith) in
      record {
        shape = leaf number;
        numbers = le-leb number 65535 n.small;
        ahead = rw (s.1, n.ahead);
        behind = omega arith;
        within = n.within s.0;
        name_is = refl;
        rows_are = sym (append-nil rows);
      }

module _ (on_to_node : List ℕ → ℕ → Reading) (text : List ℕ) (nodes : Spelled on_to_node text) where
  child_by_spelled : Spelled (child_by on_to_node text) text
  child_by_spelled rows at name after end e = go (child_way on_to_node text rows at)
    where
      go : ChildWay on_to_node text rows at → ShapeRead text rows at name after end
      go (absent_read byte f) =
          let n : absent_name ≡ name = cc in
          let l : rows ≡ after = cc in
          let p : suc at ≡ end = cc in
          rw (← n, ← l, ← p) (absent_spelled text rows at byte)
      go (leaf_read number last byte n f) =
          let m : leaf_name number ≡ name = cc in
          let l : rows ≡ after = cc in
          let p : last ≡ end = cc in
          rw (← m, ← l, ← p) (leaf_spelled text rows at number last byte n)
      go (leaf_lacks byte f) = let z : ◌≡◌ {A = ℕ} 0 1 = cc in absurd (omega arith)
      go (node_next f) = nodes rows at name after end (sym f ∙ e)

-- The parts of a node's text, one behind the other.
parts_ahead : {d c b a f g h i j : List ℕ} (x y z number rest : List ℕ) → d ≡ 40 ∷ c → c ≡ x ++ b → b ≡ 44 ∷ a → a ≡ y ++ f → f ≡ 44 ∷ g → g ≡ z ++ h
    → h ≡ 41 ∷ i → i ≡ 110 ∷ j → j ≡ number ++ rest → d ≡ (40 ∷ (x ++ (44 ∷ (y ++ (44 ∷ (z ++ (41 ∷ (110 ∷ number)))))))) ++ rest
parts_ahead x y z number rest e₁ e₂ e₃ e₄ e₅ e₆ e₇ e₈ e₉ = rw (e₁, e₂, e₃, e₄, e₅, e₆, e₇, e₈, e₉) (simp append_assoc)

-- Its rows, likewise.
rows_behind : {d c b a : List ℕ} {k l m p q r : ℕ} (rows x y z : List ℕ) (label : ℕ) → d ≡ c ++ (label ∷ (k ∷ (l ∷ (m ∷ [])))) → c ≡ b ++ z → b ≡ a ++ y
    → a ≡ rows ++ x → k ≡ p → l ≡ q → m ≡ r → d ≡ rows ++ (x ++ (y ++ (z ++ (label ∷ (p ∷ (q ∷ (r ∷ [])))))))
rows_behind rows x y z label e₁ e₂ e₃ e₄ e₅ e₆ e₇ = rw (e₁, e₂, e₃, e₄, e₅, e₆, e₇) (simp append_assoc)

module _ (child : List ℕ → ℕ → Reading) (text : List ℕ) (children : Spelled child text) where
  inside_spelled : (rows : List ℕ) (at name : ℕ) (after : List ℕ) (end : ℕ) → byte_at text at ≡ 40
      → inside child text rows (suc at) ≡ got name after end → (r : ShapeRead text rows at name after end) × (is_node r.shape ≡ true)
  unfolding spelled numbers_fit name_of rows_in is_node
  inside_spelled rows at name after end opens e =
      let i = inside_got child text rows (suc at) name after end e in
      let x = children rows (suc at) i.x i.rows_x i.end_x i.got_x in
      let y = children i.rows_x (suc i.end_x) i.y i.rows_y i.end_y i.got_y in
      let z = children i.rows_y (suc i.end_y) i.z i.rows_z i.end_z i.got_z in
      let n = i.stands in
      let s = byte_stands text at 40 opens (omega arith) in
      let sx = byte_stands text i.end_x 44 i.mark_x (omega arith) in
      let sy = byte_stands text i.end_y 44 i.mark_y (omega arith) in
      let sz = byte_stands text i.end_z 41 i.mark_z (omega arith) in
      let sn = byte_stands text (suc i.end_z) 110 i.letter (omega arith) in (
        record {
          shape = node x.shape y.shape z.shape name;
          numbers = rw (x.numbers, y.numbers, z.numbers) (le-leb name 65535 n.small);
          ahead =
              parts_ahead (spelled x.shape) (spelled y.shape) (spelled z.shape) (decimal name) (drop end text) s.1 x.ahead sx.1 y.ahead
              sy.1 z.ahead sz.1 sn.1 n.ahead;
          behind = omega (arith, x.behind, y.behind, z.behind, n.onward);
          within = n.within sn.0;
          name_is = refl;
          rows_are =
              rows_behind rows (rows_in x.shape) (rows_in y.shape) (rows_in z.shape) name i.row z.rows_are y.rows_are x.rows_are
              x.name_is y.name_is z.name_is;
        },
        refl,
      )

-- A node that was read is one.
pub node_spelled : (height : ℕ) (text rows : List ℕ) (at name : ℕ) (after : List ℕ) (end : ℕ)
    → node_within height text rows at ≡ got name after end → (r : ShapeRead text rows at name after end) × (is_node r.shape ≡ true)
unfolding node_within
node_spelled zero text rows at name after end e =
    let f = (expected_got 40 text at (crowded at) name after end e).1 in
    let z : ◌≡◌ {A = ℕ} 0 1 = cc in
    absurd (omega arith)
node_spelled (suc height) text rows at name after end e =
    let children = child_by_spelled (node_within height text) text (λ rows at name after end f. (node_spelled height text rows at name after end f).0) in
    let r = expected_got 40 text at _ name after end e in
    go (ltb (length rows) (4 * suc height)) (inside_spelled (child_by (node_within height text) text) text children rows at name after end r.0) r.1
  where
    go : (b : Bool)
        → (inside (child_by (node_within height text) text) text rows (suc at) ≡ got name after end
        → (r : ShapeRead text rows at name after end) × (is_node r.shape ≡ true))
        → cond b (inside (child_by (node_within height text) text) text rows (suc at)) (crowded at) ≡ got name after end
        → (r : ShapeRead text rows at name after end) × (is_node r.shape ≡ true)
    go true spells f = spells f
    go false spells f = let z : ◌≡◌ {A = ℕ} 0 1 = cc in absurd (omega arith)

pub child_spelled : (height : ℕ) (text rows : List ℕ) (at name : ℕ) (after : List ℕ) (end : ℕ)
    → child_within height text rows at ≡ got name after end → ShapeRead text rows at name after end
unfolding child_within
child_spelled height text rows at name after end e =
    child_by_spelled (node_within height text) text (λ rows at name after end f. (node_spelled height text rows at name after end f).0) rows at name after end e
