-- "Show that assign's result is accepted too, with the nodes where they were."
use Rattle.std.specs.Prelude.{◌≡◌, List, ℕ}
use Rattle.tree.specs.OneTree.{root_of}
use Rattle.tree.specs.Finished.{FinishedTree}
use Rattle.topphatt.specs.Answer.{done, Asked, Rooms, outcome}
use Rattle.topphatt.specs.Assignment.{SameShape}

-- Every call that is done ends in a finished tree with the given tree's root, and its nodes stand where the given tree has them.
abbrev pub EveryAssignmentFinishes : Type 0
EveryAssignmentFinishes =
    (rooms : Rooms) (call : Asked) (count weight : ℕ) (answer : List ℕ) → outcome rooms call ≡ done count weight answer
    → FinishedTree rooms.modes call.modes (root_of call.modes call.tree) answer × SameShape call.modes call.tree answer
