-- The place of a refused assignment is below 65536.
use Rattle.std.specs.Prelude.{Err, Ok, Result}
use mathlib.Core.Path.{◌≡◌}
use mathlib.Core.Bool.{◌&&◌}
use mathlib.Core.List.{List}
use Prim.Native.Nat.{ℕ, ◌*◌, ◌≤◌}
use native.Mathlib.Omega.{arith}
use borrow.Author.Tests.{eqb-true, ltb-true}
use lib.Dec.{eqb, ltb, leb}
use lib.ListN.{length}
use Rattle.lists.proofs.Tests.{whichever}
use Rattle.refusal.specs.declared.Refusal.{Refusal}
use Rattle.refusal.specs.declared.Refusal.TheVariants.{Modes, TreeLength, ChildCode, NotOneTree, WrongPair, Heuristic, Room, Rule as NoRule}
use Rattle.refusal.specs.Numbers.{place_of}
use Rattle.terms.specs.Rules.{rule_good}
use Rattle.terms.specs.Good.{modes_good, checked}
use Rattle.tree.specs.OneTree.{one_tree}
use Rattle.tree.specs.Pairs.{pairs_right}
use Rattle.tree.specs.Check.{codes_good, tree_checked}
use Rattle.topphatt.specs.Answer.{Outcome, done, refused, Asked, task_of, Rooms, done_by, with_room, with_terms, with_tree, outcome}
use Rattle.call_bytes.proofs.RefusalNumbers.{unless, bad_place, bad_row_place}
use Rattle.terms.proofs.GoodModes.{good_modes}

-- The place that a check of a tree and an assignment name, 0 where they name none.
unfoldable tree_place : Result (Unit {0}) Refusal → ℕ
tree_place (Ok tt) = 0
tree_place (Err refusal) = place_of refusal

unfoldable assign_place : Outcome → ℕ
assign_place (done count weight codes) = 0
assign_place (refused refusal) = place_of refusal

tree_small : (most modes : ℕ) (tree : List ℕ) → tree_place (tree_checked most modes tree) ≤ 3 * most
unfolding tree_checked tree_place
tree_small most modes tree =
    unless tree_place (3 * most) (modes_good most modes) (Err Modes) _ (omega arith)
    (λ m.
    let few = (good_modes most modes m).1 in
    unless tree_place (3 * most) (eqb (length tree) (3 * modes)) (Err TreeLength) _ (omega arith)
    (λ l.
    let long = eqb-true (length tree) (3 * modes) l in
    whichever tree_place (3 * most) (ltb (codes_good modes tree) (length tree)) (Err (ChildCode (codes_good modes tree))) _
    (λ g. omega (arith, ltb-true (codes_good modes tree) (length tree) g))
    (unless tree_place (3 * most) (one_tree modes tree) (Err NotOneTree) _ (omega arith)
    (λ o.
    whichever tree_place (3 * most) (ltb (pairs_right modes tree) modes) (Err (WrongPair (pairs_right modes tree))) (Ok tt)
    (λ p. omega (arith, ltb-true (pairs_right modes tree) modes p))
    (omega arith)))))

module _ (rooms : Rooms) (small : rooms.modes ≤ 256) (call : Asked) where
  terms_small : (found : Result ℕ Refusal) → bad_place found ≤ 2048 → assign_place (with_terms rooms call found) ≤ 65535
  unfolding with_terms with_room done_by assign_place bad_place
  terms_small (Ok count) h =
      let task = task_of call count in
      unless assign_place 65535 (leb (9 * length task.job.terms) rooms.work && leb (3 * task.job.modes) rooms.table) (refused Room)
      (done_by task) (omega arith) (λ f. omega arith)
  terms_small (Err refusal) h = omega (arith, h)

  rest_small : (found : Result (Unit {0}) Refusal) → tree_place found ≤ 3 * rooms.modes → assign_place (with_tree rooms call found) ≤ 65535
  unfolding with_tree tree_place assign_place
  rest_small (Ok tt) h =
      unless assign_place 65535 (leb call.heuristic 2) (refused Heuristic) _ (omega arith)
      (λ good. terms_small (checked call.modes call.numbers) (bad_row_place call.modes call.numbers))
  rest_small (Err refusal) h = omega (arith, h, small)

  outcome_small : assign_place (outcome rooms call) ≤ 65535
  unfolding outcome assign_place
  outcome_small =
      unless assign_place 65535 (modes_good rooms.modes call.modes) (refused Modes) _ (omega arith)
      (λ m.
      unless assign_place 65535 (rule_good call.rule) (refused NoRule) _ (omega arith)
      (λ r. rest_small (tree_checked rooms.modes call.modes call.tree) (tree_small rooms.modes call.modes call.tree)))

  pub assign_refused_place : (refusal : Refusal) → outcome rooms call ≡ refused refusal → place_of refusal ≤ 65535
  unfolding assign_place
  assign_refused_place refusal e = rw e at outcome_small
