-- The computed rounds are those that document 01 tells, and its words leave no room: from one state they come to one end.
use Rattle.std.specs.Prelude.{Ok}
use mathlib.Core.Path.{◌≡◌, refl, ◌∙◌, sym}
use mathlib.Core.Bool.{Bool, true, false}
use Prim.Native.Nat.{ℕ, zero, suc, ◌<◌, ◌≤◌}
use native.Mathlib.Omega.{arith}
use borrow.Author.Tests.{eqb-true, eqb-false}
use lib.Dec.{eqb}
use lib.ListN.{length}
use Rattle.lists.specs.Counting.{occurrences}
use Rattle.tree.specs.Check.{tree_checked}
use Rattle.choice.specs.Choices.{unassigned}
use Rattle.choice.proofs.ChosenOne.{chosen_one}
use Rattle.topphatt.specs.Rounds.{Rounds, Task, before, after}
use Rattle.topphatt.specs.computed.Rounding.{choice_in, next, rounds, ended}
use Rattle.topphatt.specs.Assignment.{Fair, Went, no_more, one_more, OneEnd}
use Rattle.topphatt.proofs.FairCounts.{fair_before, as_many}
use Rattle.topphatt.proofs.RoundsGo.{pairs_at_most, fair_next, round_goes}

pub one_end : OneEnd
one_end task state one other (no_more e p) (no_more f q) = p ∙ sym q
one_end task state one other (no_more e p) (one_more h c goes w) = absurd (omega arith)
one_end task state one other (one_more h c goes w) (no_more f q) = absurd (omega arith)
one_end task state one other (one_more h c goes w) (one_more k d also v) =
    one_end task (after task c state) one other w
    (rw (chosen_one task.job.modes task.table task.heuristic state.assigned state.rows d c also.right goes.right) at v)

module _ (most : ℕ) (task : Task) (accepted : tree_checked most task.job.modes task.table ≡ Ok tt) where
  abbrev modes : ℕ
  modes = task.job.modes

  rounds_went : (more : ℕ) (state : Rounds) → Fair modes state.assigned → occurrences modes state.assigned ≤ more
      → Went task state (rounds task more state)
  unfolding rounds next
  rounds_went zero state fair enough =
      let none : length (unassigned modes state.assigned) ≡ 0 = omega (arith, as_many modes state.assigned fair) in
      no_more none refl
  rounds_went (suc more) state fair enough =
      go (eqb (length (unassigned modes state.assigned)) 0) refl (rounds_went more (next task state))
    where
      go : (b : Bool) → eqb (length (unassigned modes state.assigned)) 0 ≡ b
          → (Fair modes (next task state).assigned → occurrences modes (next task state).assigned ≤ more
          → Went task (next task state) (rounds task more (next task state)))
          → Went task state (rounds task (suc more) state)
      go true q on = rw q (no_more (eqb-true (length (unassigned modes state.assigned)) 0 q) refl)
      go false q on =
          let some = eqb-false (length (unassigned modes state.assigned)) 0 q in
          let left : 0 < length (unassigned modes state.assigned) = omega arith in
          let goes = round_goes most task accepted state fair left in
          rw q
          (one_more left (choice_in task state) goes (on (fair_next most task accepted state fair left) (omega (arith, goes.gives.fewer))))

  pub ended_went : Went task (before task.job) (ended task)
  unfolding ended before
  ended_went =
      let start = fair_before modes in
      rounds_went modes (before task.job) start (pairs_at_most modes (before task.job).assigned start)
