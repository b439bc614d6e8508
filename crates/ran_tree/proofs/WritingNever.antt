-- A tree's text that fits wherever the tree is accepted is never refused by 5.
use Rattle.std.specs.Prelude.{Err, Ok, Result}
use Rattle.refusal.specs.declared.Refusal.{Refusal}
use mathlib.Core.Path.{◌≡◌, refl}
use mathlib.Core.Bool.{Bool, true, false, cond, not}
use mathlib.Core.List.{List, []}
use Prim.Native.Nat.{ℕ, ◌*◌, ◌≤◌}
use native.Mathlib.Omega.{arith}
use borrow.Author.Tests.{le-leb}
use lib.Dec.{eqb, ltb}
use lib.ListN.{length}
use Rattle.refusal.specs.declared.Refusal.TheVariants.{Modes, TreeLength, ChildCode, NotOneTree, WrongPair}
use Rattle.refusal.specs.Numbers.{number_of}
use Rattle.terms.specs.Good.{modes_good}
use Rattle.tree.specs.OneTree.{one_tree}
use Rattle.tree.specs.Pairs.{pairs_right}
use Rattle.tree.specs.Check.{codes_good, tree_checked}
use Rattle.tree.specs.Writing.{written_as, tree_written}

-- The number with which writing ends, none where it isn't refused.
unfoldable pub number_written : Result ℕ Refusal → ℕ
number_written (Ok count) = 0
number_written (Err refusal) = number_of refusal

module _ (most modes : ℕ) (table : List ℕ) where
  -- The check refuses with other numbers, and a text that fits is written.
  check_never : (text : List ℕ) (room : ℕ) → length text ≤ room → number_written (written_as (tree_checked most modes table) text room) ≡ 5 → ⊥
  unfolding number_written written_as tree_checked
  check_never text room fits =
      go (modes_good most modes) (eqb (length table) (3 * modes)) (ltb (codes_good modes table) (length table)) (one_tree modes table)
      (ltb (pairs_right modes table) modes)
    where
      go : (a b c d e : Bool)
          → number_written (written_as (cond (not a) (Err Modes)
          (cond (not b) (Err TreeLength)
          (cond c (Err (ChildCode (codes_good modes table)))
          (cond (not d) (Err NotOneTree) (cond e (Err (WrongPair (pairs_right modes table))) (Ok tt))))))
          text room)
          ≡ 5
          → ⊥
      go false b c d e h = omega arith
      go true false c d e h = omega arith
      go true true true d e h = omega arith
      go true true false false e h = omega arith
      go true true false true true h = omega arith
      go true true false true false h = omega (arith, rw (le-leb (length text) room fits) at h)

  pub writing_never : (text : List ℕ) (room : ℕ) → (tree_checked most modes table ≡ Ok tt → length text ≤ room)
      → number_written (tree_written most modes table text room) ≡ 5 → ⊥
  unfolding tree_written number_written written_as
  writing_never text room fits h = go (tree_checked most modes table) refl
    where
      go : (found : Result (Unit {0}) Refusal) → tree_checked most modes table ≡ found → ⊥
      go (Ok tt) e = check_never text room (fits e) h
      go (Err refusal) e = check_never [] 0 (omega arith) (rw e (rw e at h))
