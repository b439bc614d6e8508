-- On an accepted tree the code of the absent child is no other's: were it a leaf's, the table would have fewer codes than places.
use Rattle.std.specs.Prelude.{Ok}
use mathlib.Core.Path.{◌≡◌, refl, ap}
use mathlib.Core.Bool.{Bool, true, false}
use mathlib.Core.List.{List}
use mathlib.Core.Logic.{⊎_elim}
use Prim.Native.Nat.{ℕ, ◌*◌, ◌<◌, ◌≤◌}
use native.Mathlib.Omega.{arith}
use borrow.Author.Tests.{ltb-true, ltb-false, lt-ltb, eqb-true}
use lib.Dec.{eqb, ltb}
use lib.ListN.{get_or}
use Rattle.lists.specs.Counting.{occurrences}
use Rattle.lists.specs.Members.{every}
use Rattle.lists.proofs.Tests.{same_or_not, either}
use Rattle.lists.proofs.Every.{every_by_place}
use Rattle.lists.proofs.Totals.{total_ones}
use Rattle.lists.proofs.Pigeonholes.{counted_all, values_same}
use Rattle.entities.specs.Codes.{absent}
use Rattle.tree.specs.OneTree.{root_of}
use Rattle.tree.specs.Check.{tree_checked}
use Rattle.tree.proofs.TableSteps.{code_good}
use Rattle.tree.proofs.AcceptedParts.{accepted_parts}
use Rattle.tree.proofs.AcceptedTree.{accepted_says}

module _ (most modes : ℕ) (table : List ℕ) (accepted : tree_checked most modes table ≡ Ok tt) where
  at_most_once : (code : ℕ) → code < 3 * modes → occurrences code table ≤ 1
  at_most_once code h =
      ⊎_elim
      (λ root. omega (arith, (accepted_says most modes table accepted).top, ap (λ v. occurrences v table) root))
      (λ other. go other (ltb code modes) refl)
      (same_or_not code (root_of modes table))
    where
      go : (code ≡ root_of modes table → ⊥) → (b : Bool) → ltb code modes ≡ b → occurrences code table ≤ 1
      go other true q = omega (arith, (accepted_says most modes table accepted).node_once code (ltb-true code modes q) other)
      go other false q = omega (arith, (accepted_says most modes table accepted).leaf_once code (ltb-false code modes q) h)

  all_below : absent < 3 * modes → every (λ code. ltb code (3 * modes)) table ≡ true
  all_below low =
      every_by_place (λ code. ltb code (3 * modes)) table absent
      (λ i h.
      ⊎_elim (λ e. e) (λ e. rw (eqb-true (get_or table i absent) absent e) (lt-ltb absent (3 * modes) low))
      (either (ltb (get_or table i absent) (3 * modes)) (eqb (get_or table i absent) absent) (code_good modes table (accepted_parts most modes table accepted).good i h)))

  pub accepted_fits : 3 * modes ≤ absent
  accepted_fits = go (ltb absent (3 * modes)) refl
    where
      go : (b : Bool) → ltb absent (3 * modes) ≡ b → 3 * modes ≤ absent
      go false q = ltb-false absent (3 * modes) q
      go true q =
          let says = accepted_says most modes table accepted in
          let parts = accepted_parts most modes table accepted in
          let all = counted_all (3 * modes) table (all_below (ltb-true absent (3 * modes) q)) in
          let each = total_ones (3 * modes) in
          absurd
          (omega (
            arith,
            says.top,
            values_same (λ v. 1) (λ v. occurrences v table) (3 * modes) at_most_once (omega (arith, parts.whole)) (root_of modes table)
                (omega (arith, says.inside)),
          ))
