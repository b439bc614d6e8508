-- What reading a part came to, told by what reading its own parts came to.
use mathlib.Core.Path.{◌≡◌, refl, ◌∙◌, sym}
use mathlib.Core.Bool.{Bool, true, false}
use mathlib.Core.List.{List, [], ◌∷◌, ◌++◌}
use mathlib.Core.Logic.{◌⊎◌, inl, inr, ⊎_elim}
use Prim.Native.Nat.{ℕ, suc, ◌+◌}
use native.Mathlib.Omega.{arith}
use borrow.Author.Tests.{eqb-false, eq-eqb, ne_eqb}
use lib.Dec.{eqb}
use lib.ListN.{length}
use Rattle.lists.proofs.Tests.{same_or_not}
use Rattle.fields.specs.Decimal.{value}
use Rattle.newick.specs.Reading.{Reading, got, stuck, crowded, leaf_name, absent_name, follows, byte_at, expected, marked, number_digits, numbered, child_by, named, inside}
use Rattle.newick.proofs.DigitsStand.{NumberStands, number_stands}

-- What an expected byte, and a child's first, come to where they stand or not.
module _ (byte : ℕ) (text : List ℕ) (at : ℕ) (next : Reading) where
  pub expected_stands : byte_at text at ≡ byte → expected byte text at next ≡ next
  unfolding expected
  expected_stands e = rw (eq-eqb (byte_at text at) byte e)

  expected_lacks : (byte_at text at ≡ byte → ⊥) → expected byte text at next ≡ stuck at
  unfolding expected
  expected_lacks e = rw (ne_eqb (byte_at text at) byte e)

module _ (on_to_node : List ℕ → ℕ → Reading) (text rows : List ℕ) (at : ℕ) where
  pub child_absent : byte_at text at ≡ 101 → child_by on_to_node text rows at ≡ got absent_name rows (suc at)
  unfolding child_by
  child_absent e = rw (eq-eqb (byte_at text at) 101 e)

  pub child_leaf : byte_at text at ≡ 109 → child_by on_to_node text rows at ≡ numbered text (suc at) (λ number end. got (leaf_name number) rows end)
  unfolding child_by
  child_leaf e = rw e

  pub child_node : (byte_at text at ≡ 101 → ⊥) → (byte_at text at ≡ 109 → ⊥) → child_by on_to_node text rows at ≡ on_to_node rows at
  unfolding child_by
  child_node e f = rw (ne_eqb (byte_at text at) 101 e, ne_eqb (byte_at text at) 109 f)

-- A byte that must stand: it does, or reading stops there.
pub expected_either : (byte : ℕ) (text : List ℕ) (at : ℕ) (next : Reading)
    → ((byte_at text at ≡ byte) × (expected byte text at next ≡ next))
    ⊎ ((byte_at text at ≡ byte → ⊥) × (expected byte text at next ≡ stuck at))
expected_either byte text at next =
    ⊎_elim (λ e. inl (e, expected_stands byte text at next e)) (λ e. inr (e, expected_lacks byte text at next e)) (same_or_not (byte_at text at) byte)

-- A number that must stand, likewise.
pub data NumberWay (text : List ℕ) (at : ℕ) (next : ℕ → ℕ → Reading) : Type 0 where
  number_read : (number end : ℕ) → NumberStands text at number end → numbered text at next ≡ next number end → NumberWay text at next
  number_lacks : numbered text at next ≡ stuck at → NumberWay text at next

pub number_way : (text : List ℕ) (at : ℕ) (next : ℕ → ℕ → Reading) → NumberWay text at next
unfolding numbered
number_way text at next = go (eqb (length (number_digits text at)) 0) refl
  where
    go : (b : Bool) → eqb (length (number_digits text at)) 0 ≡ b → NumberWay text at next
    go true q = number_lacks (rw q)
    go false q =
        number_read (value (number_digits text at)) (at + length (number_digits text at))
        (number_stands text at (eqb-false (length (number_digits text at)) 0 q)) (rw q)

-- A child is the absent one, a leaf or a node.
pub data ChildWay (on_to_node : List ℕ → ℕ → Reading) (text rows : List ℕ) (at : ℕ) : Type 0 where
  absent_read : byte_at text at ≡ 101 → child_by on_to_node text rows at ≡ got absent_name rows (suc at) → ChildWay on_to_node text rows at
  leaf_read : (number end : ℕ) → byte_at text at ≡ 109 → NumberStands text (suc at) number end
      → child_by on_to_node text rows at ≡ got (leaf_name number) rows end → ChildWay on_to_node text rows at
  leaf_lacks : byte_at text at ≡ 109 → child_by on_to_node text rows at ≡ stuck (suc at) → ChildWay on_to_node text rows at
  node_next : child_by on_to_node text rows at ≡ on_to_node rows at → ChildWay on_to_node text rows at

pub child_way : (on_to_node : List ℕ → ℕ → Reading) (text rows : List ℕ) (at : ℕ) → ChildWay on_to_node text rows at
child_way on_to_node text rows at =
    go (same_or_not (byte_at text at) 101) (same_or_not (byte_at text at) 109) (number_way text (suc at) (λ number end. got (leaf_name number) rows end))
  where
    go : (byte_at text at ≡ 101) ⊎ (byte_at text at ≡ 101 → ⊥) → (byte_at text at ≡ 109) ⊎ (byte_at text at ≡ 109 → ⊥)
        → NumberWay text (suc at) (λ number end. got (leaf_name number) rows end) → ChildWay on_to_node text rows at
    go (inl e) m n = absent_read e (child_absent on_to_node text rows at e)
    go (inr no_e) (inl e) (number_read number end n f) = leaf_read number end e n (child_leaf on_to_node text rows at e ∙ f)
    go (inr no_e) (inl e) (number_lacks f) = leaf_lacks e (child_leaf on_to_node text rows at e ∙ f)
    go (inr no_e) (inr no_m) n = node_next (child_node on_to_node text rows at no_e no_m)

-- A node's name is a letter and a number.
pub data NameWay (text rows : List ℕ) (at x y z : ℕ) : Type 0 where
  name_read : (label end : ℕ) → byte_at text at ≡ 110 → NumberStands text (suc at) label end
      → named text rows at x y z ≡ got label (rows ++ (label ∷ (x ∷ (y ∷ (z ∷ []))))) end → NameWay text rows at x y z
  name_lacks : byte_at text at ≡ 110 → named text rows at x y z ≡ stuck (suc at) → NameWay text rows at x y z
  letter_lacks : named text rows at x y z ≡ stuck at → NameWay text rows at x y z

-- A node's row behind those before it.
abbrev closed : List ℕ → ℕ → ℕ → ℕ → ℕ → ℕ → Reading
closed rows x y z label end = got label (rows ++ (label ∷ (x ∷ (y ∷ (z ∷ []))))) end

pub name_way : (text rows : List ℕ) (at x y z : ℕ) → NameWay text rows at x y z
unfolding named
name_way text rows at x y z =
    go (expected_either 110 text at (numbered text (suc at) (closed rows x y z))) (number_way text (suc at) (closed rows x y z))
  where
    go : ((byte_at text at ≡ 110) × (named text rows at x y z ≡ numbered text (suc at) (closed rows x y z)))
        ⊎ ((byte_at text at ≡ 110 → ⊥) × (named text rows at x y z ≡ stuck at))
        → NumberWay text (suc at) (closed rows x y z) → NameWay text rows at x y z
    go (inl r) (number_read label end n e) = name_read label end r.0 n (r.1 ∙ e)
    go (inl r) (number_lacks e) = name_lacks r.0 (r.1 ∙ e)
    go (inr r) n = letter_lacks r.1

pub expected_got : (byte : ℕ) (text : List ℕ) (at : ℕ) (next : Reading) (name : ℕ) (rows : List ℕ) (end : ℕ)
    → expected byte text at next ≡ got name rows end → (byte_at text at ≡ byte) × (next ≡ got name rows end)
expected_got byte text at next name rows end q =
    ⊎_elim (λ r. (r.0, sym r.1 ∙ q))
    (λ r.
    let e = r.1 in
    let z : ◌≡◌ {A = ℕ} 0 1 = cc in
    absurd (omega arith))
    (expected_either byte text at next)

-- What follows a child and the byte behind it was read: so were they.
pub behind_mark_got : (byte : ℕ) (text : List ℕ) (child : Reading) (next : ℕ → List ℕ → ℕ → Reading) (name : ℕ) (rows : List ℕ) (at : ℕ)
    → follows (marked byte text child) next ≡ got name rows at
    → (n : ℕ) × (rs : List ℕ) × (e : ℕ) × (child ≡ got n rs e) × (byte_at text e ≡ byte) × (next n rs (suc e) ≡ got name rows at)
unfolding follows marked
behind_mark_got byte text (got n rs e) next name rows at q =
    ⊎_elim (λ r. (n, rs, e, refl, r.0, rw r.1 at q))
    (λ r.
    let f : stuck e ≡ got name rows at = rw r.1 at q in
    let z : ◌≡◌ {A = ℕ} 0 1 = cc in
    absurd (omega arith))
    (expected_either byte text e (got n rs (suc e)))
behind_mark_got byte text (stuck p) next name rows at q = let z : ◌≡◌ {A = ℕ} 0 1 = cc in absurd (omega arith)
behind_mark_got byte text (crowded p) next name rows at q = let z : ◌≡◌ {A = ℕ} 0 1 = cc in absurd (omega arith)

-- What was read behind a `(`.
pub record InsideGot (child : List ℕ → ℕ → Reading) (text rows : List ℕ) (at name : ℕ) (after : List ℕ) (end : ℕ) : Type 0 where
  pub x : ℕ
  pub y : ℕ
  pub z : ℕ
  pub rows_x : List ℕ
  pub rows_y : List ℕ
  pub rows_z : List ℕ
  pub end_x : ℕ
  pub end_y : ℕ
  pub end_z : ℕ
  pub got_x : child rows at ≡ got x rows_x end_x
  pub mark_x : byte_at text end_x ≡ 44
  pub got_y : child rows_x (suc end_x) ≡ got y rows_y end_y
  pub mark_y : byte_at text end_y ≡ 44
  pub got_z : child rows_y (suc end_y) ≡ got z rows_z end_z
  pub mark_z : byte_at text end_z ≡ 41
  pub letter : byte_at text (suc end_z) ≡ 110
  pub stands : NumberStands text (suc (suc end_z)) name end
  pub row : after ≡ rows_z ++ (name ∷ (x ∷ (y ∷ (z ∷ []))))

named_got : (text rows : List ℕ) (at x y z name : ℕ) (after : List ℕ) (end : ℕ) → named text rows at x y z ≡ got name after end
    → (byte_at text at ≡ 110) × NumberStands text (suc at) name end × (after ≡ rows ++ (name ∷ (x ∷ (y ∷ (z ∷ [])))))
named_got text rows at x y z name after end q = go (name_way text rows at x y z)
  where
    go : NameWay text rows at x y z
        → (byte_at text at ≡ 110) × NumberStands text (suc at) name end × (after ≡ rows ++ (name ∷ (x ∷ (y ∷ (z ∷ [])))))
    go (name_read label last letter n e) =
        let f : label ≡ name = cc in
        let g : last ≡ end = cc in
        (letter, rw (f, g) at n, cc)
    go (name_lacks letter e) = let z : ◌≡◌ {A = ℕ} 0 1 = cc in absurd (omega arith)
    go (letter_lacks e) = let z : ◌≡◌ {A = ℕ} 0 1 = cc in absurd (omega arith)

pub inside_got : (child : List ℕ → ℕ → Reading) (text rows : List ℕ) (at name : ℕ) (after : List ℕ) (end : ℕ)
    → inside child text rows at ≡ got name after end → InsideGot child text rows at name after end
unfolding inside
inside_got child text rows at name after end q =
    let f = behind_mark_got 44 text (child rows at) _ name after end q in
    let g = behind_mark_got 44 text (child f.1 (suc f.2)) _ name after end f.5 in
    let h = behind_mark_got 41 text (child g.1 (suc g.2)) _ name after end g.5 in
    let n = named_got text h.1 (suc h.2) f.0 g.0 h.0 name after end h.5 in
    record {
      x = f.0;
      y = g.0;
      z = h.0;
      rows_x = f.1;
      rows_y = g.1;
      rows_z = h.1;
      end_x = f.2;
      end_y = g.2;
      end_z = h.2;
      got_x = f.3;
      mark_x = f.4;
      got_y = g.3;
      mark_y = g.4;
      got_z = h.3;
      mark_z = h.4;
      letter = n.0;
      stands = n.1;
      row = n.2;
    }
