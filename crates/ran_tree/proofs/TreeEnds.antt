-- A run's rows laid out in front of a table are what is printed of, or its refusal.
use mathlib.Core.Path.{◌≡◌, ap, ◌∙◌, sym}
use mathlib.Core.List.{List}
use Prim.Native.Nat.{ℕ, ◌*◌, ◌≤◌}
use native.Mathlib.Omega.{arith}
use lib.ListN.{length, take}
use Rattle.refusal.specs.declared.Refusal.{Refusal}
use Rattle.tree.specs.Laying.{modes_in, table_of}
use Rattle.journal.specs.Resuming.{Outcome, refuses}
use Rattle.text.specs.declared.running.Run.{Run}
use Rattle.text.specs.code.Runs.{Lent, RanDone}
use Rattle.text.specs.Output.{refusal_text}
use Rattle.text.proofs.RunEnds.{rows_stand}
use Rattle.ran_tree.specs.Printing.{tree_printed}
use Rattle.ran_tree.specs.code.Ending.{TreeStands}

module _ {most : ℕ} {means : Outcome} {before after : Lent} {run : Run} (known : RanDone most means before after run) (room : 4 * most ≤ length before.rows) where
  -- The rows of a run that is done, in front of what was lent.
  pub front_modes : modes_in (take (4 * run.modes) after.rows) ≡ run.modes
  unfolding modes_in
  front_modes = rw (rows_stand known room) (omega (arith, known.exact))

  pub done_stands : (table : List ℕ) → take (3 * modes_in (take (4 * run.modes) after.rows)) table ≡ table_of (take (4 * run.modes) after.rows)
      → TreeStands most means table run.modes
  unfolding tree_printed
  done_stands table laid_out =
      let size : run.modes ≡ modes_in known.ending.rows = sym front_modes ∙ ap modes_in (rows_stand known room) in
      let front : take (3 * run.modes) table ≡ table_of known.ending.rows =
      ap (λ n. take (3 * n) table) (sym front_modes) ∙ laid_out ∙ ap table_of (rows_stand known room) in
      record {
        few = known.few;
        prints = λ of_table. rw (known.is, front) (ap (λ n. of_table n (table_of known.ending.rows)) size);
      }

-- Of a run that is refused the refusal is printed.
pub tree_refused : {means : Outcome} {refusal : Refusal} → means ≡ refuses refusal → (of_table : ℕ → List ℕ → List ℕ)
    → refusal_text refusal ≡ tree_printed of_table means
unfolding tree_printed
tree_refused is of_table = rw is
