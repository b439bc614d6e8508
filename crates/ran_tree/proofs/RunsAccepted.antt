-- The tree that a text's run ends in is accepted, so two ways to print a table that agree on accepted ones print the same of it.
use Rattle.std.specs.Prelude.{Ok}
use mathlib.Core.Path.{◌≡◌, refl}
use mathlib.Core.List.{List}
use Prim.Native.Nat.{ℕ, ◌*◌, ◌/◌, ◌≤◌}
use native.Mathlib.Omega.{arith}
use lib.ListN.{length}
use Rattle.entities.specs.Codes.{absent}
use Rattle.terms.specs.Rules.{rule_number}
use Rattle.terms_text.specs.Input.{Said, given, malformed, said}
use Rattle.terms_text.specs.Jobs.{Request}
use Rattle.journal.specs.Resuming.{Ending, Outcome, done, refuses}
use Rattle.journal.proofs.RowsFit.{rows_fit}
use Rattle.tree.specs.Check.{tree_checked}
use Rattle.tree.specs.Laying.{modes_in, table_of}
use Rattle.finished.proofs.CallsFinish.{every_finish}
use Rattle.text.specs.Running.{Rooms, ran_by, ran}
use Rattle.ran_tree.specs.Printing.{tree_printed}

pub run_accepted : (rooms : Rooms) (asks : Request) (read : List ℕ) (end : Ending) → 3 * rooms.run.modes ≤ absent → ran rooms asks read ≡ done end
    → tree_checked rooms.run.modes (modes_in end.rows) (table_of end.rows) ≡ Ok tt
unfolding ran ran_by modes_in
run_accepted rooms asks read end small = go (said rooms.terms asks.text)
  where
    go : (says : Said) → ran_by rooms asks.rule says read ≡ done end
        → tree_checked rooms.run.modes (modes_in end.rows) (table_of end.rows) ≡ Ok tt
    go (given modes numbers) e =
        let rule = rule_number asks.rule in
        let fit = rows_fit rooms.run modes rule numbers read end small e in
        let size : length end.rows / 4 ≡ modes = omega (arith, fit.exact) in
        let tree = every_finish rooms.run rooms.run.modes modes rule numbers read end e fit.few (omega (arith, fit.few)) in
        rw size tree.accepted
    go (malformed line) e = let z : ◌≡◌ {A = ℕ} 0 1 = cc in absurd (omega arith)

pub printed_same : (rooms : Rooms) (asks : Request) (read : List ℕ) (of_table other : ℕ → List ℕ → List ℕ) → 3 * rooms.run.modes ≤ absent
    → ((modes : ℕ) (table : List ℕ) → tree_checked rooms.run.modes modes table ≡ Ok tt → of_table modes table ≡ other modes table)
    → tree_printed of_table (ran rooms asks read) ≡ tree_printed other (ran rooms asks read)
unfolding tree_printed
printed_same rooms asks read of_table other small same = go (ran rooms asks read) refl
  where
    go : (end : Outcome) → ran rooms asks read ≡ end → tree_printed of_table end ≡ tree_printed other end
    go (done ending) e = same (modes_in ending.rows) (table_of ending.rows) (run_accepted rooms asks read ending small e)
    go (refuses refusal) e = refl
