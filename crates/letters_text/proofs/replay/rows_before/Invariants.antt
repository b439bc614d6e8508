-- The rows before each step in turn: a merge takes them to those before the next.
use mathlib.Core.List.{List}
use Prim.Native.Nat.{ℕ}
use Rattle.terms.specs.Job.{Job}
use Rattle.history.specs.History.{history_before}
use Rattle.merging.specs.code.State.{history_of}
use Rattle.letters_text.specs.code.Replaying.{RowsAre, Finished}
use Rattle.letters_text.proofs.replay.rows_before.Given as goal

abbrev pub invariant-loop-at : goal.invariant-loop-at
invariant-loop-at l = (job : Job) (own : List ℕ) → Finished job own l.run l.initial.rows → RowsAre job (history_before (history_of l.run) l.at) l.rows
