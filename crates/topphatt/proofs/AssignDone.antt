-- What is known when an assignment is done: every test passed, and the answer is that of the rounds.
use Rattle.std.specs.Prelude.{Err, Ok, Result}
use mathlib.Core.Path.{◌≡◌, refl}
use mathlib.Core.Bool.{Bool, true, false, ◌&&◌}
use mathlib.Core.List.{List}
use Prim.Native.Nat.{ℕ, ◌*◌}
use native.Mathlib.Omega.{arith}
use lib.Dec.{leb}
use Rattle.refusal.specs.declared.Refusal.{Refusal}
use Rattle.terms.specs.Rules.{rule_good}
use Rattle.terms.specs.Good.{modes_good, checked}
use Rattle.terms.proofs.RowSteps.{length_terms}
use Rattle.tree.specs.Check.{tree_checked}
use Rattle.topphatt.specs.Rounds.{Task}
use Rattle.topphatt.specs.computed.Rounding.{ended}
use Rattle.topphatt.specs.Answer.{done, refused, answer_table, Asked, task_of, Rooms, done_by, with_room, with_terms, with_tree, outcome}

module _ (rooms : Rooms) (call : Asked) (count weight : ℕ) (answer : List ℕ) where
  abbrev task : ℕ → Task
  task rows = task_of call rows

  pub record AssignDone : Type 0 where
    pub accepted : tree_checked rooms.modes call.modes call.tree ≡ Ok tt
    pub terms_are : checked call.modes call.numbers ≡ Ok count
    pub rooms_are : (leb (9 * count) rooms.work && leb (3 * call.modes) rooms.table) ≡ true
    pub weight_is : weight ≡ (ended (task_of call count)).weight
    pub answer_is : answer ≡ answer_table call.modes (ended (task_of call count)).assigned call.tree

  not_done : (refusal : Refusal) → refused refusal ≡ done count weight answer → AssignDone
  not_done refusal e = let z : ◌≡◌ {A = ℕ} 0 1 = cc in absurd (omega arith)

  module _ (accepted : tree_checked rooms.modes call.modes call.tree ≡ Ok tt) where
    from_room : (n : ℕ) → checked call.modes call.numbers ≡ Ok n → with_room rooms (task n) ≡ done count weight answer → AssignDone
    unfolding with_room done_by
    from_room n t says = go (leb (9 * n) rooms.work && leb (3 * call.modes) rooms.table) refl
      where
        go : (b : Bool) → (leb (9 * n) rooms.work && leb (3 * call.modes) rooms.table) ≡ b → AssignDone
        go true r =
            let same : done n (ended (task n)).weight (answer_table call.modes (ended (task n)).assigned call.tree) ≡ done count weight answer =
            rw (length_terms 8 n call.numbers, r) at says in
            let c : n ≡ count = cc in
            record { accepted = accepted; terms_are = rw (← c) t; rooms_are = rw (← c) r; weight_is = rw (← c) cc; answer_is = rw (← c) cc }
        go false r = not_done _ (rw (length_terms 8 n call.numbers, r) at says)

    from_terms : (found : Result ℕ Refusal) → checked call.modes call.numbers ≡ found → with_terms rooms call found ≡ done count weight answer
        → AssignDone
    unfolding with_terms
    from_terms (Ok n) t says = from_room n t says
    from_terms (Err refusal) t says = not_done refusal says

  from_tree : (found : Result (Unit {0}) Refusal) → tree_checked rooms.modes call.modes call.tree ≡ found
      → with_tree rooms call found ≡ done count weight answer → AssignDone
  unfolding with_tree
  from_tree (Ok tt) accepted says = go (leb call.heuristic 2) refl
    where
      go : (b : Bool) → leb call.heuristic 2 ≡ b → AssignDone
      go true h = from_terms accepted (checked call.modes call.numbers) refl (rw h at says)
      go false h = not_done _ (rw h at says)
  from_tree (Err refusal) accepted says = not_done refusal says

  pub assign_done : outcome rooms call ≡ done count weight answer → AssignDone
  unfolding outcome
  assign_done says = go (modes_good rooms.modes call.modes) refl (rule_good call.rule) refl
    where
      go : (b : Bool) → modes_good rooms.modes call.modes ≡ b → (c : Bool) → rule_good call.rule ≡ c → AssignDone
      go true m true u = from_tree (tree_checked rooms.modes call.modes call.tree) refl (rw (m, u) at says)
      go true m false u = not_done _ (rw (m, u) at says)
      go false m c u = not_done _ (rw m at says)
