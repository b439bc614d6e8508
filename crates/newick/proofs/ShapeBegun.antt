-- Where reading halts with a text, the text is the beginning of a longer one that spells a shape.
use mathlib.Core.Path.{◌≡◌, refl}
use mathlib.Core.Bool.{Bool, true, false, cond}
use mathlib.Core.List.{List, [], ◌∷◌, ◌++◌}
use mathlib.Core.Logic.{⊎_elim}
use Prim.Native.Nat.{ℕ, zero, suc, ◌*◌, ◌<◌}
use native.Mathlib.Omega.{arith}
use lib.Dec.{ltb}
use lib.ListN.{length}
use Rattle.fields.specs.Decimal.{digits, decimal}
use Rattle.newick.specs.Grammar.{Shape, leaf, none, node, spelled, numbers_fit, is_node}
use Rattle.newick.specs.Reading.{Reading, got, crowded, follows, byte_at, expected, marked, child_by, named, inside}
use Rattle.newick.specs.code.Within.{node_within, child_within}
use Rattle.newick.proofs.DigitsStand.{byte_stands}
use Rattle.newick.proofs.ReadingParts.{expected_either, ChildWay, absent_read, leaf_read, leaf_lacks, node_next, child_way, NameWay, name_read, name_lacks, letter_lacks, name_way}
use Rattle.newick.proofs.ReadingStops.{Halts, MarkHalts, child_halts, mark_lacks, behind_halts, mark_halts}
use Rattle.newick.proofs.Beginnings.{Begins, begins_longer, begins_behind, begins_end}
use Rattle.newick.proofs.ShapeRead.{ShapeRead, child_spelled}

-- A shape that a text can go on to spell from a place on.
pub record ShapeBegun (text : List ℕ) (at : ℕ) : Type 0 where
  pub shape : Shape
  pub numbers : numbers_fit shape ≡ true
  pub begins : Begins text at (spelled shape)

-- The shortest end of a node's text.
name_begun : (text rows : List ℕ) (at x y z : ℕ) → Halts text (named text rows at x y z) → Begins text at (110 ∷ decimal 0)
unfolding decimal digits Halts
name_begun text rows at x y z e = go (name_way text rows at x y z)
  where
    go : NameWay text rows at x y z → Begins text at (110 ∷ decimal 0)
    go (name_read label end letter n f) = absurd (rw f at e)
    go (name_lacks letter f) =
        begins_behind text at (suc at) (110 ∷ []) (decimal 0) (byte_stands text at 110 letter (omega arith)).1
        (begins_end text (suc at) 48 [] (rw f at e))
    go (letter_lacks f) = begins_end text at 110 (decimal 0) (rw f at e)

-- A child and the byte behind it: what the text spells so far can end behind the byte, or reading went on behind it.
data MarkBegun (byte : ℕ) (text : List ℕ) (at : ℕ) (next : ℕ → List ℕ → ℕ → Reading) : Type 0 where
  begun_here : (shape : Shape) → numbers_fit shape ≡ true → ((longer : List ℕ) → Begins text at (spelled shape ++ (byte ∷ longer)))
      → MarkBegun byte text at next
  read_past : (shape : Shape) (name : ℕ) (rows : List ℕ) (end : ℕ) → numbers_fit shape ≡ true
      → ((longer : List ℕ) → Begins text end longer → Begins text at (spelled shape ++ (byte ∷ longer))) → Halts text (next name rows end)
      → MarkBegun byte text at next

module _ (child : List ℕ → ℕ → Reading) (text : List ℕ)
    (whole : (rows : List ℕ) (at name : ℕ) (after : List ℕ) (end : ℕ) → child rows at ≡ got name after end → ShapeRead text rows at name after end)
    (begun : (rows : List ℕ) (at : ℕ) → Halts text (child rows at) → ShapeBegun text at) where
  mark_begun : (byte : ℕ) (rows : List ℕ) (at : ℕ) (next : ℕ → List ℕ → ℕ → Reading) → 0 < byte
      → Halts text (follows (marked byte text (child rows at)) next) → MarkBegun byte text at next
  mark_begun byte rows at next some e = go (mark_halts byte text (child rows at) next e)
    where
      go : MarkHalts byte text (child rows at) next → MarkBegun byte text at next
      go (child_halts f) =
          let b = begun rows at f in
          begun_here b.shape b.numbers (λ longer. begins_longer text at (spelled b.shape) (byte ∷ longer) b.begins)
      go (mark_lacks name after f) =
          let r = whole rows at name after (length text) f in
          begun_here r.shape r.numbers
          (λ longer. begins_behind text at (length text) (spelled r.shape) (byte ∷ longer) r.ahead (begins_end text (length text) byte longer refl))
      go (behind_halts name after end f stands g) =
          let r = whole rows at name after end f in
          read_past r.shape name after (suc end) r.numbers
          (λ longer b.
          begins_behind text at end (spelled r.shape) (byte ∷ longer) r.ahead
          (begins_behind text end (suc end) (byte ∷ []) longer (byte_stands text end byte stands some).1 b))
          g

  z_begun : (rows : List ℕ) (at x y : ℕ) → Halts text (follows (marked 41 text (child rows at)) (λ z rows at. named text rows at x y z))
      → (z : Shape) × (numbers_fit z ≡ true) × Begins text at (spelled z ++ (41 ∷ (110 ∷ decimal 0)))
  z_begun rows at x y e = go (mark_begun 41 rows at (λ z rows at. named text rows at x y z) (omega arith) e)
    where
      go : MarkBegun 41 text at (λ z rows at. named text rows at x y z)
          → (z : Shape) × (numbers_fit z ≡ true) × Begins text at (spelled z ++ (41 ∷ (110 ∷ decimal 0)))
      go (begun_here z fit on) = (z, fit, on (110 ∷ decimal 0))
      go (read_past z name after end fit on f) = (z, fit, on (110 ∷ decimal 0) (name_begun text after end x y name f))

  y_begun : (rows : List ℕ) (at x : ℕ)
      → Halts text (follows (marked 44 text (child rows at)) (λ y rows at. follows (marked 41 text (child rows at)) (λ z rows at. named text rows at x y z)))
      → (y : Shape) × (z : Shape) × (numbers_fit y ≡ true) × (numbers_fit z ≡ true)
      × Begins text at (spelled y ++ (44 ∷ (spelled z ++ (41 ∷ (110 ∷ decimal 0)))))
  unfolding spelled numbers_fit
  y_begun rows at x e =
      go (mark_begun 44 rows at (λ y rows at. follows (marked 41 text (child rows at)) (λ z rows at. named text rows at x y z)) (omega arith) e)
    where
      go : MarkBegun 44 text at (λ y rows at. follows (marked 41 text (child rows at)) (λ z rows at. named text rows at x y z))
          → (y : Shape) × (z : Shape) × (numbers_fit y ≡ true) × (numbers_fit z ≡ true)
          × Begins text at (spelled y ++ (44 ∷ (spelled z ++ (41 ∷ (110 ∷ decimal 0)))))
      go (begun_here y fit on) = (y, none, fit, refl, on (101 ∷ (41 ∷ (110 ∷ decimal 0))))
      go (read_past y name after end fit on f) =
          let z = z_begun after end x name f in
          (y, z.0, fit, z.1, on (spelled z.0 ++ (41 ∷ (110 ∷ decimal 0))) z.2)

  -- A node whose `(` stands.
  inside_begun : (rows : List ℕ) (at : ℕ) → byte_at text at ≡ 40 → Halts text (inside child text rows (suc at))
      → (b : ShapeBegun text at) × (is_node b.shape ≡ true)
  unfolding inside spelled numbers_fit is_node
  inside_begun rows at opens e = go (mark_begun 44 rows (suc at) _ (omega arith) e)
    where
      so_begun : (x y z : Shape) → numbers_fit x ≡ true → numbers_fit y ≡ true → numbers_fit z ≡ true
          → Begins text (suc at) (spelled x ++ (44 ∷ (spelled y ++ (44 ∷ (spelled z ++ (41 ∷ (110 ∷ decimal 0)))))))
          → (b : ShapeBegun text at) × (is_node b.shape ≡ true)
      so_begun x y z f g h b = (
        record {
          shape = node x y z 0;
          numbers = rw (f, g, h) refl;
          begins = begins_behind text at (suc at) (40 ∷ []) _ (byte_stands text at 40 opens (omega arith)).1 b;
        },
        refl,
      )

      go : MarkBegun 44 text (suc at)
          (λ x rows at. follows (marked 44 text (child rows at)) (λ y rows at. follows (marked 41 text (child rows at)) (λ z rows at. named text rows at x y z)))
          → (b : ShapeBegun text at) × (is_node b.shape ≡ true)
      go (begun_here x fit on) = so_begun x none none fit refl refl (on (101 ∷ (44 ∷ (101 ∷ (41 ∷ (110 ∷ decimal 0))))))
      go (read_past x name after end fit on f) =
          let y = y_begun after end name f in
          so_begun x y.0 y.1 fit y.2 y.3 (on (spelled y.0 ++ (44 ∷ (spelled y.1 ++ (41 ∷ (110 ∷ decimal 0))))) y.4)

module _ (text : List ℕ) where
  child_by_begun : (on_to_node : List ℕ → ℕ → Reading) → ((rows : List ℕ) (at : ℕ) → Halts text (on_to_node rows at) → ShapeBegun text at)
      → (rows : List ℕ) (at : ℕ) → Halts text (child_by on_to_node text rows at) → ShapeBegun text at
  unfolding spelled numbers_fit decimal digits Halts
  child_by_begun on_to_node nodes rows at e = go (child_way on_to_node text rows at)
    where
      go : ChildWay on_to_node text rows at → ShapeBegun text at
      go (absent_read byte f) = absurd (rw f at e)
      go (leaf_read number end byte n f) = absurd (rw f at e)
      go (leaf_lacks byte f) =
          record {
            shape = leaf 0;
            numbers = refl;
            begins =
                begins_behind text at (suc at) (109 ∷ []) (decimal 0) (byte_stands text at 109 byte (omega arith)).1
                (begins_end text (suc at) 48 [] (rw f at e));
          }
      go (node_next f) = nodes rows at (rw f at e)

  -- A node that a text can go on to spell.
  abbrev NodeBegun : ℕ → Type 0
  NodeBegun at = (b : ShapeBegun text at) × (is_node b.shape ≡ true)

  -- One of which nothing stands yet, or its `(` alone.
  none_begun : (at : ℕ) → at ≡ length text → NodeBegun at
  unfolding spelled numbers_fit is_node
  none_begun at e = (record { shape = node none none none 0; numbers = refl; begins = begins_end text at 40 _ e }, refl)

  just_opened : (at : ℕ) → byte_at text at ≡ 40 → suc at ≡ length text → NodeBegun at
  unfolding spelled numbers_fit is_node
  just_opened at opens e = (
    record {
      shape = node none none none 0;
      numbers = refl;
      begins = begins_behind text at (suc at) (40 ∷ []) _ (byte_stands text at 40 opens (omega arith)).1 (begins_end text (suc at) 101 _ e);
    },
    refl,
  )

  opens_begun : (at : ℕ) (next : Reading) → (byte_at text at ≡ 40 → Halts text next → NodeBegun at) → Halts text (expected 40 text at next) → NodeBegun at
  unfolding Halts
  opens_begun at next on e =
      ⊎_elim (λ r. on r.0 (rw r.1 at e)) (λ r. none_begun at (rw r.1 at e)) (expected_either 40 text at next)

  pub node_begun : (height : ℕ) (rows : List ℕ) (at : ℕ) → Halts text (node_within height text rows at) → NodeBegun at
  unfolding node_within child_within Halts
  node_begun zero rows at e = opens_begun at (crowded at) (just_opened at) e
  node_begun (suc height) rows at e =
      opens_begun at _
      (λ opens.
      go (ltb (length rows) (4 * suc height)) opens
      (inside_begun (child_by (node_within height text) text) text (child_spelled height text)
      (child_by_begun (node_within height text) (λ rows at f. (node_begun height rows at f).0)) rows at opens))
      e
    where
      go : (b : Bool) → byte_at text at ≡ 40 → (Halts text (inside (child_by (node_within height text) text) text rows (suc at)) → NodeBegun at)
          → Halts text (cond b (inside (child_by (node_within height text) text) text rows (suc at)) (crowded at)) → NodeBegun at
      go true opens begun f = begun f
      go false opens begun f = just_opened at opens f
