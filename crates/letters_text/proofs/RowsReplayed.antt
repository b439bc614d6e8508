-- The rows before a step, one merge after the other.
use mathlib.Core.Path.{◌≡◌, ap, ◌∙◌, sym}
use mathlib.Core.List.{List, []}
use Prim.Native.Nat.{ℕ, ◌+◌, ◌<◌, ◌≤◌}
use native.Mathlib.Omega.{arith}
use lib.ListN.{length}
use Rattle.entities.specs.declared.Triple.{Triple}
use Rattle.entities.specs.Parents.{parent_number}
use Rattle.terms.specs.declared.rules.Rule.{Rule}
use Rattle.terms.specs.Rows.{terms_of}
use Rattle.terms.specs.Counted.{terms_in}
use Rattle.terms.specs.Job.{Job}
use Rattle.terms.specs.code.Held.{Worked}
use Rattle.terms.proofs.CountedRows.{terms_counted}
use Rattle.reduction.specs.code.Promises.{Reduced}
use Rattle.history.specs.History.{merge_of, history_before, next_parent, rows_after}
use Rattle.history.specs.Drops.{counted_after}
use Rattle.history.proofs.DropsAddUp.{same_rows, add_up}
use Rattle.history.proofs.HistoryBefore.{length_before, before_first, before_next}
use Rattle.letters_text.specs.code.Replaying.{RowsAre}

module _ (job : Job) (history : List Triple) where
  pub replay_starts : (numbers : List ℕ) → RowsAre job [] numbers → RowsAre job (history_before history 0) numbers
  replay_starts numbers rows = rw (before_first history) rows

  -- One merge more.
  pub replay_goes : (step : ℕ) (before after : List ℕ) (rule : Rule) (triple : Triple) (parent drops : ℕ) → step < length history
      → rule ≡ job.rule → triple ≡ merge_of history step → parent ≡ parent_number job.modes step → RowsAre job (history_before history step) before
      → Reduced rule triple parent (length job.terms) before after drops → RowsAre job (history_before history (step + 1)) after
  unfolding counted_after next_parent
  replay_goes step before after rule triple parent drops h is_rule is_merge is_parent rows reduced =
      record {
        held = reduced.held;
        rows_are =
            rw (before_next history step h, length_before history step (omega arith), ← rows.rows_are, ← is_rule, ← is_merge, ← is_parent) reduced.rows;
      }

-- The rows' terms are the job's after the merges, and they stand for no more than there are.
module _ (job : Job) (history : List Triple) (numbers : List ℕ) (rows : RowsAre job history numbers) where
  pub terms_replayed : terms_of 9 (length job.terms) numbers ≡ rows_after job history
  terms_replayed = sym (terms_counted (length job.terms) numbers) ∙ ap terms_in rows.rows_are ∙ same_rows job history

  pub worked_replayed : length job.terms ≤ 2048 → Worked (length job.terms) numbers
  worked_replayed light = record { held = rows.held; few = rw rows.rows_are (omega (arith, add_up job history, light)) }
