-- The text of a tree as it is written: the tree under the root, and `;` behind it.
use mathlib.Core.Path.{◌≡◌, ap}
use mathlib.Core.List.{List, [], ◌∷◌, ◌++◌}
use Prim.Native.Nat.{ℕ, ◌+◌, ◌<◌, ◌≤◌}
use native.Mathlib.Numerals.{add-one}
use native.Mathlib.Omega.{arith}
use lib.ListN.{length, set, length-append}
use Rattle.lists.specs.Written.{written_at}
use Rattle.lists.proofs.Behind.{written_one}
use Rattle.tree.specs.Table.{climb}
use Rattle.tree.specs.OneTree.{root_of}
use Rattle.newick.specs.Grammar.{spelled}
use Rattle.newick.specs.Writing.{shape_under, newick_text}

module _ (modes : ℕ) (table : List ℕ) (root : ℕ) (e : root ≡ climb table modes 0) where
  abbrev tree_text : List ℕ
  tree_text = spelled (shape_under modes table (modes + 1) root)

  text_is : newick_text modes table ≡ tree_text ++ (59 ∷ [])
  unfolding newick_text root_of
  text_is = rw (e, add-one modes)

  module _ (text : List ℕ) (room : length (newick_text modes table) ≤ length text) where
    pub tree_room : length tree_text < length text
    tree_room = omega (arith, ap length text_is, length-append tree_text (59 ∷ []))

    pub tree_wrote : {after : List ℕ} {end : ℕ} → end ≡ 0 + length tree_text → after ≡ written_at 0 tree_text text
        → set after end 59 ≡ written_at 0 (newick_text modes table) text
    tree_wrote {after} {end} behind written =
        rw (written, text_is) (written_one 0 tree_text text end 59 behind (omega (arith, tree_room)))
