-- The answer of an assignment is a finished tree: it is accepted, and its root is the given tree's.
use Rattle.std.specs.Prelude.{Ok}
use mathlib.Core.Path.{◌≡◌, ◌∙◌}
use mathlib.Core.List.{List}
use mathlib.Core.Logic.{⊎_elim}
use Prim.Native.Nat.{ℕ}
use native.Mathlib.Omega.{arith}
use lib.ListN.{get_or}
use Rattle.lists.specs.Counting.{occurrences}
use Rattle.lists.proofs.Tests.{same_or_not}
use Rattle.lists.proofs.Occurring.{occurs_at}
use Rattle.entities.specs.Codes.{absent}
use Rattle.tree.specs.Table.{place_of_code}
use Rattle.tree.specs.OneTree.{root_of}
use Rattle.tree.specs.Check.{tree_checked}
use Rattle.tree.proofs.Standing.{place_within, stands_there}
use Rattle.tree.proofs.AcceptedTree.{accepted_says}
use Rattle.tree.proofs.FinishedTables.{accepted_finished}
use Rattle.topphatt.specs.Assignment.{SameShape}
use Rattle.topphatt.specs.Finished.{EveryAssignmentFinishes}
use Rattle.topphatt.proofs.AssignDone.{assign_done}
use Rattle.topphatt.proofs.OutcomeRight.{outcome_right}

-- Another root of the answer would stand in the given tree, and so in the answer.
same_root : (most modes : ℕ) (table answer : List ℕ) → tree_checked most modes table ≡ Ok tt → tree_checked most modes answer ≡ Ok tt
    → SameShape modes table answer → root_of modes answer ≡ root_of modes table
same_root most modes table answer given accepted shape =
    let root = root_of modes answer in
    let says = accepted_says most modes answer accepted in
    ⊎_elim (λ e. e)
    (λ other.
    let stands : occurrences root table ≡ 1 = (accepted_says most modes table given).node_once root says.inside other in
    let place = place_of_code table root in
    let within = place_within root table (omega arith) in
    let there : get_or table place absent ≡ root = stands_there root absent table (omega arith) in
    let still : get_or answer place absent ≡ root = shape.node_stays place within (omega (arith, there, says.inside)) ∙ there in
    absurd (omega (arith, says.top, occurs_at root answer place absent (omega (arith, shape.whole, within)) still)))
    (same_or_not root (root_of modes table))

pub assignment_finishes : EveryAssignmentFinishes
assignment_finishes rooms call count weight answer says =
    let right = outcome_right rooms call count weight answer says in
    let given = (assign_done rooms call count weight answer says).accepted in
    let root = same_root rooms.modes call.modes call.tree answer given right.accepted right.shape in
    (rw root at (accepted_finished rooms.modes call.modes answer right.accepted), right.shape)
