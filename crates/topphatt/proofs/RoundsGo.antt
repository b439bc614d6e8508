-- On an accepted tree every round with a mode unassigned has a choice and gives modes to pairs; so after all rounds every pair has one.
use Rattle.std.specs.Prelude.{Ok}
use mathlib.Core.Path.{◌≡◌, refl}
use mathlib.Core.Bool.{Bool, true, false}
use mathlib.Core.List.{List}
use Prim.Native.Nat.{ℕ, zero, suc, ◌<◌, ◌≤◌}
use native.Mathlib.Omega.{arith}
use borrow.Author.Tests.{eqb-true, eqb-false, ltb-true, ltb-false}
use lib.Dec.{eqb, ltb}
use lib.ListN.{length, get_or}
use Rattle.lists.specs.Counting.{occurrences}
use Rattle.lists.proofs.Occurring.{occurs_at}
use Rattle.lists.proofs.Pigeonholes.{counted_with}
use Rattle.tree.specs.Table.{child}
use Rattle.tree.specs.Check.{tree_checked}
use Rattle.slots.specs.Slots.{pair_of, slot, unfixed}
use Rattle.slots.proofs.SlotCases.{pair_below, edge_without}
use Rattle.choice.specs.Choices.{unassigned}
use Rattle.choice.proofs.ChosenRight.{of_candidates, chosen_first, chosen_right}
use Rattle.topphatt.specs.Rounds.{Rounds, Task, before, after}
use Rattle.topphatt.specs.computed.Rounding.{choice_in, next, rounds, ended}
use Rattle.topphatt.specs.Assignment.{Fair, RoundGoes, AllAssigned}
use Rattle.topphatt.proofs.FairCounts.{fair_before, as_many, each_assigned}
use Rattle.topphatt.proofs.SomeChoice.{some_choice}
use Rattle.topphatt.proofs.RoundGives.{slots_together, choice_gives}
use Rattle.topphatt.proofs.RoundList.{complete_leave}
use Rattle.topphatt.proofs.ChosenLeaves.{chosen_complete}

-- A pair without a mode is a pair, so there are no more than n.
pub pairs_at_most : (modes : ℕ) (assigned : List ℕ) → Fair modes assigned → occurrences modes assigned ≤ modes
pairs_at_most modes assigned fair = omega (arith, counted_with modes modes assigned (omega arith), fair.whole)

-- Where no pair is without a mode, each mode is one pair's and no slot is unfixed.
every_pair : (modes : ℕ) (table assigned : List ℕ) → Fair modes assigned → occurrences modes assigned ≡ 0 → AllAssigned modes table assigned
every_pair modes table assigned fair none =
    record {
      none_left = omega (arith, as_many modes assigned fair);
      whole = fair.whole;
      inside = inside;
      each_once = λ mode h. each_assigned modes assigned fair none mode h;
      none_unfixed = λ node edge. go node edge (unfixed (slot modes table assigned node edge)) refl;
    }
  where
    inside : (k : ℕ) → k < modes → get_or assigned k modes < modes
    inside k h = below (ltb (get_or assigned k modes) modes) refl
      where
        below : (b : Bool) → ltb (get_or assigned k modes) modes ≡ b → get_or assigned k modes < modes
        below true q = ltb-true (get_or assigned k modes) modes q
        below false q =
            let high = ltb-false (get_or assigned k modes) modes q in
            absurd (omega (arith, occurs_at modes assigned k modes (omega (arith, fair.whole)) (omega (arith, fair.known k h))))

    go : (node edge : ℕ) (b : Bool) → unfixed (slot modes table assigned node edge) ≡ b → unfixed (slot modes table assigned node edge) ≡ false
    go node edge false q = q
    go node edge true q =
        let w = edge_without modes table assigned node edge q in
        absurd (omega (arith, w.none, inside (pair_of modes (child table node edge)) (pair_below modes assigned (child table node edge) w.low w.high)))

module _ (most : ℕ) (task : Task) (accepted : tree_checked most task.job.modes task.table ≡ Ok tt) where
  abbrev modes : ℕ
  modes = task.job.modes

  abbrev table : List ℕ
  table = task.table

  abbrev heuristic : ℕ
  heuristic = task.heuristic

  module _ (state : Rounds) (fair : Fair modes state.assigned) (left : 0 < length (unassigned modes state.assigned)) where
    pub round_goes : RoundGoes task state (choice_in task state)
    unfolding after
    round_goes =
        let some = some_choice most modes table accepted heuristic state.assigned fair left in
        let found = (chosen_first modes table heuristic state.assigned state.rows some).member in
        let gives = choice_gives most modes table accepted heuristic state.assigned fair
        (choice_in task state) found in
        record {
          some_choice = some;
          right = chosen_right modes table heuristic state.assigned state.rows some;
          together =
              slots_together most modes table accepted heuristic state.assigned fair _
              (of_candidates modes table heuristic state.assigned found).0;
          gives = gives;
          done =
              chosen_complete most modes table accepted heuristic state.assigned fair
              (choice_in task state) found;
          leave = complete_leave modes table state.assigned _ gives;
        }

    pub fair_next : Fair modes (next task state).assigned
    unfolding next
    fair_next = round_goes.gives.fair

  -- As many rounds as pairs without a mode are enough.
  pub rounds_end : (more : ℕ) (state : Rounds) → Fair modes state.assigned → occurrences modes state.assigned ≤ more
      → Fair modes (rounds task more state).assigned × (occurrences modes (rounds task more state).assigned ≡ 0)
  unfolding rounds next
  rounds_end zero state fair enough = (fair, omega arith)
  rounds_end (suc more) state fair enough =
      go (eqb (length (unassigned modes state.assigned)) 0) refl (rounds_end more (next task state))
    where
      go : (b : Bool) → eqb (length (unassigned modes state.assigned)) 0 ≡ b
          → (Fair modes (next task state).assigned → occurrences modes (next task state).assigned ≤ more
          → Fair modes (rounds task more (next task state)).assigned
          × (occurrences modes (rounds task more (next task state)).assigned ≡ 0))
          → Fair modes (rounds task (suc more) state).assigned × (occurrences modes (rounds task (suc more) state).assigned ≡ 0)
      go true q on = rw q (fair, omega (arith, as_many modes state.assigned fair, eqb-true (length (unassigned modes state.assigned)) 0 q))
      go false q on =
          let some = eqb-false (length (unassigned modes state.assigned)) 0 q in
          let left : 0 < length (unassigned modes state.assigned) = omega arith in
          rw q (on (fair_next state fair left) (omega (arith, (round_goes state fair left).gives.fewer)))

  pub all_assigned : AllAssigned modes table (ended task).assigned
  unfolding ended before
  all_assigned =
      let start = fair_before modes in
      let done = rounds_end modes (before task.job) start (pairs_at_most modes (before task.job).assigned start) in
      every_pair modes table (rounds task modes (before task.job)).assigned done.0 done.1
