-- A shape that stands ahead as it is spelled is read as that shape, where its nodes are not too many.
use mathlib.Core.Path.{◌≡◌, refl, ◌∙◌}
use mathlib.Core.Bool.{true, false, and-eq-true_iff}
use mathlib.Core.List.{List, [], ◌∷◌, ◌++◌, append-nil, append_assoc}
use Prim.Native.Nat.{ℕ, zero, suc, ◌+◌, ◌*◌, ◌<◌, ◌≤◌}
use native.Mathlib.Omega.{arith}
use borrow.Author.Tests.{lt-ltb, leb-true}
use lib.ListN.{length, drop, length-append}
use Rattle.fields.specs.Decimal.{is_digit, decimal}
use Rattle.newick.specs.Grammar.{Shape, leaf, none, node, spelled, numbers_fit}
use Rattle.newick.specs.Reading.{Reading, got, leaf_name, follows, byte_at, expected, marked, child_by, named, inside}
use Rattle.newick.specs.code.Within.{node_within, child_within}
use Rattle.newick.proofs.Shapes.{name_of, rows_in}
use Rattle.newick.proofs.NodeText.{node_ahead, node_length}
use Rattle.newick.proofs.ReadingParts.{expected_stands, child_node}
use Rattle.newick.proofs.Ahead.{ahead_byte, ahead_next, ahead_over}
use Rattle.newick.proofs.NumberRead.{numbered_ahead}

module _ (text : List ℕ) where
  expected_ahead : (byte at : ℕ) (next : Reading) (rest : List ℕ) → drop at text ≡ byte ∷ rest → expected byte text at next ≡ next
  expected_ahead byte at next rest e = expected_stands byte text at next (ahead_byte text at byte rest e)

  pub marked_ahead : (byte name : ℕ) (rows : List ℕ) (at : ℕ) (rest : List ℕ) → drop at text ≡ byte ∷ rest
      → marked byte text (got name rows at) ≡ got name rows (suc at)
  unfolding marked follows
  marked_ahead byte name rows at rest e = expected_ahead byte at (got name rows (suc at)) rest e

  named_ahead : (rows : List ℕ) (at x y z label : ℕ) (rest : List ℕ) → label ≤ 65535 → is_digit (byte_at rest 0) ≡ false
      → drop at text ≡ 110 ∷ (decimal label ++ rest)
      → named text rows at x y z ≡ got label (rows ++ (label ∷ (x ∷ (y ∷ (z ∷ []))))) (suc at + length (decimal label))
  unfolding named
  named_ahead rows at x y z label rest fits stops e =
      expected_ahead 110 at _ (decimal label ++ rest) e
      ∙ numbered_ahead text rest stops label (suc at) (λ label end. got label (rows ++ (label ∷ (x ∷ (y ∷ (z ∷ []))))) end) fits
      (ahead_next text at 110 (decimal label ++ rest) e)

  -- Three children read one behind the other, each with its mark, and the name behind them.
  module _ (child : List ℕ → ℕ → Reading) (rows : List ℕ) (at x y z label : ℕ) (with_x with_y with_z : List ℕ) (end_x end_y end_z : ℕ)
      (beyond_x beyond_y rest : List ℕ) where
    inside_ahead : child rows at ≡ got x with_x end_x → drop end_x text ≡ 44 ∷ beyond_x
        → child with_x (suc end_x) ≡ got y with_y end_y → drop end_y text ≡ 44 ∷ beyond_y
        → child with_y (suc end_y) ≡ got z with_z end_z → drop end_z text ≡ 41 ∷ (110 ∷ (decimal label ++ rest))
        → label ≤ 65535 → is_digit (byte_at rest 0) ≡ false
        → inside child text rows at ≡ got label (with_z ++ (label ∷ (x ∷ (y ∷ (z ∷ []))))) (suc (suc end_z) + length (decimal label))
    unfolding inside follows
    inside_ahead first behind_x second behind_y third behind_z fits stops =
        rw (
          first,
          marked_ahead 44 x with_x end_x beyond_x behind_x,
          second,
          marked_ahead 44 y with_y end_y beyond_y behind_y,
          third,
          marked_ahead 41 z with_z end_z (110 ∷ (decimal label ++ rest)) behind_z,
        )
        (named_ahead with_z (suc end_z) x y z label rest fits stops (ahead_next text end_z 41 (110 ∷ (decimal label ++ rest)) behind_z))

-- How many numbers a node's rows are.
pub rows_length : (x y z : Shape) (label : ℕ)
    → length (rows_in (node x y z label)) ≡ length (rows_in x) + (length (rows_in y) + (length (rows_in z) + 4))
unfolding rows_in
rows_length x y z label = simp length-append (omega arith)

rows_behind : (rows : List ℕ) (x y z : Shape) (label : ℕ)
    → (((rows ++ rows_in x) ++ rows_in y) ++ rows_in z) ++ (label ∷ (name_of x ∷ (name_of y ∷ (name_of z ∷ []))))
    ≡ rows ++ rows_in (node x y z label)
unfolding rows_in
rows_behind rows x y z label = simp append_assoc

-- The numbers of a node's parts fit.
pub node_fits : (x y z : Shape) (label : ℕ) → numbers_fit (node x y z label) ≡ true
    → (numbers_fit x ≡ true) × (numbers_fit y ≡ true) × (numbers_fit z ≡ true) × (label ≤ 65535)
unfolding numbers_fit
node_fits x y z label e =
    let p = (and-eq-true_iff (numbers_fit x) _).0 e in
    let q = (and-eq-true_iff (numbers_fit y) _).0 p.1 in
    let r = (and-eq-true_iff (numbers_fit z) _).0 q.1 in
    (p.0, q.0, r.0, leb-true label 65535 r.1)

-- A mark ends a number.
pub mark_stops : (mark : ℕ) (rest : List ℕ) → is_digit mark ≡ false → is_digit (byte_at (mark ∷ rest) 0) ≡ false
unfolding byte_at
mark_stops mark rest e = e

module _ (text : List ℕ) where
  -- A node is read where its children are.
  node_opens : (height : ℕ) (rows : List ℕ) (at : ℕ) (rest : List ℕ) → drop at text ≡ 40 ∷ rest → length rows < 4 * suc height
      → node_within (suc height) text rows at ≡ inside (child_within height text) text rows (suc at)
  unfolding node_within child_within
  node_opens height rows at rest e few = expected_ahead text 40 at _ rest e ∙ rw (lt-ltb (length rows) (4 * suc height) few)

  pub child_opens : (height : ℕ) (rows : List ℕ) (at : ℕ) (rest : List ℕ) → drop at text ≡ 40 ∷ rest
      → child_within height text rows at ≡ node_within height text rows at
  unfolding child_within
  child_opens height rows at rest e =
      let here = ahead_byte text at 40 rest e in
      child_node (node_within height text) text rows at (λ f. absurd (omega arith)) (λ f. absurd (omega arith))

  pub child_ahead : (shape : Shape) → numbers_fit shape ≡ true → (height : ℕ) (rows : List ℕ) (at : ℕ) (rest : List ℕ)
      → drop at text ≡ spelled shape ++ rest → is_digit (byte_at rest 0) ≡ false → length rows + length (rows_in shape) ≤ 4 * height
      → child_within height text rows at ≡ got (name_of shape) (rows ++ rows_in shape) (at + length (spelled shape))
  unfolding spelled name_of rows_in child_within child_by numbers_fit is_digit
  child_ahead (leaf number) fit height rows at rest e stops few =
      let place : suc at + length (decimal number) ≡ at + suc (length (decimal number)) = omega arith in
      rw (ahead_byte text at 109 (decimal number ++ rest) e)
      (numbered_ahead text rest stops number (suc at) (λ number end. got (leaf_name number) rows end) (leb-true number 65535 fit)
      (ahead_next text at 109 (decimal number ++ rest) e)
      ∙ rw (append-nil rows, place))
  child_ahead none fit height rows at rest e stops few =
      let place : at + 1 ≡ suc at = omega arith in
      rw (ahead_byte text at 101 rest e, append-nil rows, place)
  child_ahead (node x y z label) fit zero rows at rest e stops few = absurd (omega (arith, rows_length x y z label))
  child_ahead (node x y z label) fit (suc height) rows at rest e stops few =
      let fits = node_fits x y z label fit in
      let named_z : List ℕ = 41 ∷ (110 ∷ (decimal label ++ rest)) in
      let after_y : List ℕ = spelled z ++ named_z in
      let after_x : List ℕ = spelled y ++ (44 ∷ after_y) in
      let start = suc at in
      let opens : drop at text ≡ 40 ∷ (spelled x ++ (44 ∷ after_x)) = e ∙ node_ahead x y z label rest in
      let at_x : drop start text ≡ spelled x ++ (44 ∷ after_x) = ahead_next text at 40 (spelled x ++ (44 ∷ after_x)) opens in
      let end_x = start + length (spelled x) in
      let behind_x : drop end_x text ≡ 44 ∷ after_x = ahead_over text start (spelled x) (44 ∷ after_x) at_x in
      let at_y : drop (suc end_x) text ≡ spelled y ++ (44 ∷ after_y) = ahead_next text end_x 44 after_x behind_x in
      let end_y = suc end_x + length (spelled y) in
      let behind_y : drop end_y text ≡ 44 ∷ after_y = ahead_over text (suc end_x) (spelled y) (44 ∷ after_y) at_y in
      let at_z : drop (suc end_y) text ≡ spelled z ++ named_z = ahead_next text end_y 44 after_y behind_y in
      let end_z = suc end_y + length (spelled z) in
      let behind_z : drop end_z text ≡ named_z = ahead_over text (suc end_y) (spelled z) named_z at_z in
      let with_x = rows ++ rows_in x in
      let with_y = with_x ++ rows_in y in
      let room = rows_length x y z label in
      let place : suc (suc end_z) + length (decimal label) ≡ at + length (spelled (node x y z label)) = omega (arith, node_length x y z label) in
      child_opens (suc height) rows at (spelled x ++ (44 ∷ after_x)) opens
      ∙ node_opens height rows at (spelled x ++ (44 ∷ after_x)) opens (omega (arith, room))
      ∙ inside_ahead text (child_within height text) rows start (name_of x) (name_of y) (name_of z) label with_x with_y (with_y ++ rows_in z)
      end_x end_y end_z after_x after_y rest
      (child_ahead x fits.0 height rows start (44 ∷ after_x) at_x (mark_stops 44 after_x refl) (omega (arith, room))) behind_x
      (child_ahead y fits.1 height with_x (suc end_x) (44 ∷ after_y) at_y (mark_stops 44 after_y refl) (omega (arith, room, length-append rows (rows_in x))))
      behind_y
      (child_ahead z fits.2 height with_y (suc end_y) named_z at_z (mark_stops 41 (110 ∷ (decimal label ++ rest)) refl)
      (omega (arith, room, length-append rows (rows_in x), length-append with_x (rows_in y))))
      behind_z fits.3 stops
      ∙ joined (rows_behind rows x y z label) place
    where
      joined : {l m : List ℕ} {a b : ℕ} → l ≡ m → a ≡ b → got label l a ≡ got label m b
      joined p q = rw (p, q)
