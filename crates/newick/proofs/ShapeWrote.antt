-- A name, and a node's parts, written one behind the other.
use mathlib.Core.Path.{◌≡◌, ap, ◌∙◌}
use mathlib.Core.List.{List, [], ◌∷◌, ◌++◌, append-nil}
use Prim.Native.Nat.{ℕ, suc, ◌+◌, ◌-◌, ◌<◌, ◌≤◌}
use native.Mathlib.Omega.{arith}
use borrow.Rule.Slice.PartMut.{put_mid}
use lib.ListN.{length, set, take, drop, length-append, length-set}
use Rattle.lists.specs.Written.{written_at}
use Rattle.lists.proofs.Behind.{set_written, rest_written, written_behind}
use Rattle.lists.proofs.Partway.{Partway, parts_start, parts_room, parts_mark, parts_next, parts_end}
use Rattle.fields.specs.Decimal.{decimal}
use Rattle.tree.specs.Table.{child}
use Rattle.newick.specs.Grammar.{spelled}
use Rattle.newick.specs.Writing.{shape_under}
use Rattle.newick.proofs.ShapeText.{node_text}

-- A letter stored, and digits written over the front of what was lent from behind it on.
pub name_put : (s : List ℕ) (at letter : ℕ) (digits : List ℕ) {after : List ℕ}
    → after ≡ written_at 0 digits (take (length (set s at letter) - (at + 1)) (drop (at + 1) (set s at letter)))
    → at + (1 + length digits) ≤ length s
    → put_mid (at + 1) (length (set s at letter) - (at + 1)) (set s at letter) after ≡ written_at at (letter ∷ digits) s
name_put s at letter digits e room =
    ap (put_mid (at + 1) (length (set s at letter) - (at + 1)) (set s at letter)) e
    ∙ rest_written (at + 1) digits (set s at letter) (simp length-set (omega arith))
    ∙ ap (written_at (at + 1) digits) (set_written s at letter (omega arith))
    ∙ written_behind at (letter ∷ []) digits s (omega arith)

-- A node that is to be written at a place of a text that has room for it.
pub record NodeAt : Type 0 where
  pub modes : ℕ
  pub table : List ℕ
  pub height : ℕ
  pub node : ℕ
  pub at : ℕ
  pub text : List ℕ
  pub below : node < modes
  pub room : at + length (spelled (shape_under modes table (suc height) node)) ≤ length text

module _ (n : NodeAt) where
  abbrev pub node_whole : List ℕ
  node_whole = spelled (shape_under n.modes n.table (suc n.height) n.node)

  abbrev code_text : ℕ → List ℕ
  code_text code = spelled (shape_under n.modes n.table n.height code)

  abbrev edge_text : ℕ → List ℕ
  edge_text edge = code_text (child n.table n.node edge)

  -- What is left behind the Z child, the Y child, the X child, and at the start: before each child and before the name stands one mark.
  abbrev pub from_name : List ℕ
  from_name = 41 ∷ ((110 ∷ decimal n.node) ++ [])

  abbrev pub from_third : List ℕ
  from_third = 44 ∷ (edge_text 2 ++ from_name)

  abbrev pub from_second : List ℕ
  from_second = 44 ∷ (edge_text 1 ++ from_third)

  abbrev from_first : List ℕ
  from_first = 40 ∷ (edge_text 0 ++ from_second)

  abbrev pub NodeLeft : List ℕ → List ℕ → ℕ → Type 0
  NodeLeft rest s here = Partway node_whole n.at n.text rest s here

  pub node_starts : NodeLeft from_first n.text n.at
  node_starts =
      parts_start node_whole n.at n.text n.room from_first
      (rw append-nil (node_text n.modes n.table n.height n.node n.below))

  pub mark_room : {mark : ℕ} {rest s : List ℕ} {here : ℕ} → NodeLeft (mark ∷ rest) s here → (here < length s) × (here < length n.text)
  mark_room w = parts_mark node_whole n.at n.text n.room w

  module _ (mark edge : ℕ) (more : List ℕ) {code : ℕ} (e : code ≡ child n.table n.node edge) {s : List ℕ} {here : ℕ}
      (w : NodeLeft (mark ∷ (edge_text edge ++ more)) s here) where
    pub child_room : here + 1 + length (code_text code) ≤ length (set s here mark)
    child_room =
        let left = parts_room node_whole n.at n.text n.room w in
        let size = length-append (edge_text edge) more in
        rw (e, length-set s here mark) (omega arith)

    pub child_wrote : {after : List ℕ} {end : ℕ} → end ≡ here + 1 + length (code_text code)
        → after ≡ written_at (here + 1) (code_text code) (set s here mark) → NodeLeft more after end
    child_wrote f g = parts_next node_whole n.at n.text n.room mark (edge_text edge) more w (rw e at f) (rw e at g)

  module _ {s : List ℕ} {here : ℕ} (w : NodeLeft from_name s here) where
    pub name_room : here + 1 + (1 + length (decimal n.node)) ≤ length (set s here 41)
    name_room =
        let left = parts_room node_whole n.at n.text n.room w in
        let size = length-append (110 ∷ decimal n.node) [] in
        rw (length-set s here 41) (omega arith)

    pub node_ends : {after : List ℕ} {end : ℕ} → end ≡ here + 1 + (1 + length (decimal n.node))
        → after ≡ written_at (here + 1) (110 ∷ decimal n.node) (set s here 41)
        → (end ≡ n.at + length node_whole) × (after ≡ written_at n.at node_whole n.text)
    node_ends e f =
        parts_end node_whole n.at n.text n.room
        (parts_next node_whole n.at n.text n.room 41 (110 ∷ decimal n.node) [] w (omega (arith, e)) f)
