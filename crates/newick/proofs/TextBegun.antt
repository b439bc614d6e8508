-- A text that reading halts with, or ends behind its `;`, is the beginning of one that spells a tree.
use mathlib.Core.Path.{◌≡◌, refl}
use mathlib.Core.Bool.{true}
use mathlib.Core.List.{List, [], ◌∷◌, ◌++◌, append-nil}
use Prim.Native.Nat.{ℕ, ◌<◌}
use lib.ListN.{length}
use Rattle.newick.specs.Grammar.{Shape, spelled, numbers_fit, is_node, Spells}
use Rattle.newick.specs.Reading.{Reading, got, stuck, crowded, follows}
use Rattle.newick.specs.code.Within.{node_within, root_within}
use Rattle.newick.proofs.ReadingStops.{Halts, MarkHalts, child_halts, mark_lacks, behind_halts, mark_halts}
use Rattle.newick.proofs.ShapeRead.{node_spelled}
use Rattle.newick.proofs.WholeText.{root_spells}
use Rattle.newick.proofs.Beginnings.{Begins, begins_longer, begins_behind, begins_end}
use Rattle.newick.proofs.ShapeBegun.{node_begun}

pub record TextBegun (text : List ℕ) : Type 0 where
  pub shape : Shape
  pub rest : List ℕ
  pub spells : Spells shape (text ++ rest)

module _ (most : ℕ) (text : List ℕ) where
  pub root_short : Halts text (root_within most text) → (b : TextBegun text) × (0 < length b.rest)
  unfolding follows Halts
  root_short e = go (mark_halts 59 text (node_within most text [] 0) (λ name rows at. got name rows at) (as_followed (root_within most text) e))
    where
      as_followed : (r : Reading) → Halts text r → Halts text (follows r (λ name rows at. got name rows at))
      as_followed (got name rows at) h = h
      as_followed (stuck place) h = h
      as_followed (crowded place) h = h

      begun : (shape : Shape) → is_node shape ≡ true → numbers_fit shape ≡ true → Begins text 0 (spelled shape ++ (59 ∷ []))
          → (b : TextBegun text) × (0 < length b.rest)
      begun shape root numbers b =
          (record { shape = shape; rest = b.rest; spells = record { root = root; numbers = numbers; text_is = b.joined } }, b.more)

      go : MarkHalts 59 text (node_within most text [] 0) (λ name rows at. got name rows at) → (b : TextBegun text) × (0 < length b.rest)
      go (child_halts f) =
          let n = node_begun text most [] 0 f in
          begun n.0.shape n.1 n.0.numbers (begins_longer text 0 (spelled n.0.shape) (59 ∷ []) n.0.begins)
      go (mark_lacks name rows f) =
          let n = node_spelled most text [] 0 name rows (length text) f in
          begun n.0.shape n.1 n.0.numbers
          (begins_behind text 0 (length text) (spelled n.0.shape) (59 ∷ []) n.0.ahead (begins_end text (length text) 59 [] refl))
      go (behind_halts name rows end f stands g) = absurd g

  pub root_whole : (name : ℕ) (rows : List ℕ) → root_within most text ≡ got name rows (length text) → TextBegun text
  root_whole name rows e =
      let read = root_spells most text name rows e in
      record { shape = read.shape; rest = []; spells = rw (append-nil text) read.spells }
