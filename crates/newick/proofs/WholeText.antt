-- A whole text: a shape's, where its nodes are not too many, and every text that is read to its end is one.
use mathlib.Core.Path.{◌≡◌, refl, ap, ◌∙◌, sym}
use mathlib.Core.Bool.{Bool, true, false, cond}
use mathlib.Core.List.{List, [], ◌∷◌, ◌++◌}
use Prim.Native.Nat.{ℕ, suc, ◌+◌, ◌*◌, ◌≤◌}
use native.Mathlib.Nat.{zero-add}
use native.Mathlib.Omega.{arith}
use borrow.Author.Tests.{eq-eqb, eqb-true, eqb-false}
use lib.Dec.{eqb}
use lib.ListN.{length, drop, length-append}
use lib.Seq.{drop-length, drop-append_seam}
use Rattle.fields.specs.Decimal.{is_digit}
use Rattle.newick.specs.Grammar.{Shape, leaf, none, node, spelled, is_node, Spells}
use Rattle.newick.specs.Reading.{Reading, got, stuck, crowded, follows, text_read}
use Rattle.newick.specs.code.Within.{node_within, child_within, root_within}
use Rattle.newick.proofs.Shapes.{name_of, rows_in}
use Rattle.newick.proofs.NodeText.{node_ahead}
use Rattle.newick.proofs.DigitsStand.{byte_stands}
use Rattle.newick.proofs.ReadingParts.{behind_mark_got}
use Rattle.newick.proofs.ShapeRead.{node_spelled}
use Rattle.newick.proofs.Counted.{root_agrees}
use Rattle.newick.proofs.SpelledRead.{marked_ahead, mark_stops, child_opens, child_ahead}

-- A node's text is read as a node where a child's is.
opens_node : (shape : Shape) (most : ℕ) (rest : List ℕ) → is_node shape ≡ true
    → node_within most (spelled shape ++ rest) [] 0 ≡ child_within most (spelled shape ++ rest) [] 0
unfolding is_node
opens_node (leaf number) most rest root = let z : ◌≡◌ {A = ℕ} 0 1 = cc in absurd (omega arith)
opens_node none most rest root = let z : ◌≡◌ {A = ℕ} 0 1 = cc in absurd (omega arith)
opens_node (node x y z label) most rest root = sym (child_opens (spelled (node x y z label) ++ rest) most [] 0 _ (node_ahead x y z label rest))

pub root_ahead : (most : ℕ) (shape : Shape) (text : List ℕ) → Spells shape text → length (rows_in shape) ≤ 4 * most
    → root_within most text ≡ got (name_of shape) (rows_in shape) (length text)
unfolding is_digit
root_ahead most shape text spells few = rw spells.text_is whole
  where
    whole : root_within most (spelled shape ++ (59 ∷ [])) ≡ got (name_of shape) (rows_in shape) (length (spelled shape ++ (59 ∷ [])))
    whole =
        let all : List ℕ = spelled shape ++ (59 ∷ []) in
        let root : node_within most all [] 0 ≡ got (name_of shape) (rows_in shape) (0 + length (spelled shape)) =
        opens_node shape most (59 ∷ []) spells.root
        ∙ child_ahead all shape spells.numbers most [] 0 (59 ∷ []) refl (mark_stops 59 [] refl) (omega arith) in
        let last : suc (length (spelled shape)) ≡ length all = omega (arith, length-append (spelled shape) (59 ∷ [])) in
        rw (root, zero-add (length (spelled shape)), marked_ahead all 59 (name_of shape) (rows_in shape) (length (spelled shape)) [] (drop-append_seam (spelled shape) (59 ∷ [])), last)

-- What a text that was read spells.
pub record TextRead (text : List ℕ) (name : ℕ) (rows : List ℕ) : Type 0 where
  pub shape : Shape
  pub spells : Spells shape text
  pub name_is : name ≡ name_of shape
  pub rows_are : rows ≡ rows_in shape

module _ (most : ℕ) (text : List ℕ) (name : ℕ) (rows : List ℕ) where
  pub root_spells : root_within most text ≡ got name rows (length text) → TextRead text name rows
  unfolding follows
  root_spells e =
      let m = behind_mark_got 59 text (node_within most text [] 0) (λ name rows at. got name rows at) name rows (length text) (rw e) in
      let g = m.5 in
      let n = node_spelled most text [] 0 m.0 m.1 m.2 m.3 in
      let read = n.0 in
      let last : suc m.2 ≡ length text = cc in
      let same_name : name ≡ m.0 = cc in
      let same_rows : rows ≡ m.1 = cc in
      let ended : drop (suc m.2) text ≡ [] = rw last (drop-length text) in
      record {
        shape = read.shape;
        spells =
            record {
              root = n.1;
              numbers = read.numbers;
              text_is =
                  read.ahead
                  ∙ ap (λ l. spelled read.shape ++ l) ((byte_stands text m.2 59 m.4 (omega arith)).1 ∙ ap (λ l. 59 ∷ l) ended);
            };
        name_is = same_name ∙ read.name_is;
        rows_are = same_rows ∙ read.rows_are;
      }

-- A text is read by its root: whole, more stands behind its `;`, it is stuck before that, or a node is one too many.
pub data TextWay (most : ℕ) (text : List ℕ) : Type 0 where
  whole : (name : ℕ) (rows : List ℕ) → root_within most text ≡ got name rows (length text) → text_read most text ≡ got name rows (length text)
      → TextWay most text
  more_behind : (name : ℕ) (rows : List ℕ) (place : ℕ) → root_within most text ≡ got name rows place → (place ≡ length text → ⊥)
      → text_read most text ≡ stuck place → TextWay most text
  cut_short : (place : ℕ) → root_within most text ≡ stuck place → text_read most text ≡ stuck place → TextWay most text
  too_many : (place : ℕ) → root_within most text ≡ crowded place → text_read most text ≡ crowded place → TextWay most text

-- Behind the `;` nothing may stand.
abbrev pub ends : List ℕ → ℕ → List ℕ → ℕ → Reading
ends text name rows at = cond (eqb at (length text)) (got name rows at) (stuck at)

module _ (most : ℕ) (text : List ℕ) where
  pub text_by_root : text_read most text ≡ follows (root_within most text) (ends text)
  unfolding text_read
  text_by_root = ap (λ r. follows r (ends text)) (root_agrees most text).alike

  pub text_way : TextWay most text
  unfolding follows
  text_way = go (root_within most text) refl text_by_root
    where
      go : (r : Reading) → root_within most text ≡ r → text_read most text ≡ follows r (ends text) → TextWay most text
      go (got name rows at) e f = whether (eqb at (length text)) refl f
        where
          whether : (b : Bool) → eqb at (length text) ≡ b → text_read most text ≡ cond b (got name rows at) (stuck at) → TextWay most text
          whether true q g = let last = eqb-true at (length text) q in whole name rows (rw last at e) (rw last at g)
          whether false q g = more_behind name rows at e (eqb-false at (length text) q) g
      go (stuck place) e f = cut_short place e f
      go (crowded place) e f = too_many place e f

  pub text_ahead : (shape : Shape) → Spells shape text → length (rows_in shape) ≤ 4 * most
      → text_read most text ≡ got (name_of shape) (rows_in shape) (length text)
  unfolding follows
  text_ahead shape spells few =
      text_by_root ∙ rw (root_ahead most shape text spells few) (rw (eq-eqb (length text) (length text) refl) refl)

  pub text_spells : (name : ℕ) (rows : List ℕ) (at : ℕ) → text_read most text ≡ got name rows at → TextRead text name rows
  text_spells name rows at e = go text_way
    where
      go : TextWay most text → TextRead text name rows
      go (whole n rs root read) =
          let same_name : n ≡ name = cc in
          let same_rows : rs ≡ rows = cc in
          rw (← same_name, ← same_rows) (root_spells most text n rs root)
      go (more_behind n rs place root other read) = let z : ◌≡◌ {A = ℕ} 0 1 = cc in absurd (omega arith)
      go (cut_short place root read) = let z : ◌≡◌ {A = ℕ} 0 1 = cc in absurd (omega arith)
      go (too_many place root read) = let z : ◌≡◌ {A = ℕ} 0 1 = cc in absurd (omega arith)
