-- The rows of a run: their terms are those after its merges, and they stand for no more input rows than there are.
use mathlib.Core.Path.{◌≡◌, ap, ◌∙◌, sym}
use mathlib.Core.List.{List}
use Prim.Native.Nat.{ℕ}
use native.Mathlib.Omega.{arith}
use Rattle.terms.specs.Rows.{terms_of}
use Rattle.terms.specs.Counted.{terms_in}
use Rattle.terms.specs.code.Held.{Worked}
use Rattle.terms.specs.Job.{Job}
use Rattle.terms.proofs.CountedRows.{terms_counted}
use Rattle.history.specs.History.{rows_after}
use Rattle.history.proofs.DropsAddUp.{same_rows, add_up}
use Rattle.merging.specs.declared.run.Run.{Run}
use Rattle.merging.specs.code.State.{history_of, HoldsIn}

module _ (entities steps : ℕ) (job : Job) (rows : List ℕ) (run : Run) (holds : HoldsIn entities steps job rows run) where
  pub terms_are : terms_of 9 run.count rows ≡ rows_after job (history_of run)
  terms_are = sym (terms_counted run.count rows) ∙ ap terms_in holds.rows_are ∙ same_rows job (history_of run)

  pub rows_worked : Worked run.count rows
  rows_worked =
      record { held = holds.held; few = rw holds.rows_are (omega (arith, add_up job (history_of run), holds.light)) }
