-- "The lines are obeyed in order": what lines that were obeyed to a history have said.
use Rattle.std.specs.Prelude.{◌≡◌, List, [], ℕ, suc, ◌-◌, ◌<◌, ◌≤◌, length, get_or, Some}
use Rattle.entities.specs.declared.Triple.{Triple}
use Rattle.terms.specs.Job.{Job}
use Rattle.history.specs.History.{merge_of, history_before}
use Rattle.history.specs.Lawful.{LawfulHistory}
use Rattle.history.specs.Choice.{weight_in}
use Rattle.obeying.specs.LineForms.{header_of, merge_of_line}

-- Lines that were obeyed to a history: no line at all and no merge, or a header and a line for each merge.
pub record Obedient (job : Job) (texts : List (List ℕ)) (history : List Triple) : Type 0 where
  pub lawful : LawfulHistory job.modes history
  pub within : length history ≤ job.modes
  pub a_line_each : length history ≡ length texts - 1
  pub header : 0 < length texts → header_of (get_or texts 0 []) ≡ Some (record { rule = job.rule; modes = job.modes; terms = length job.terms })
  pub says : (i : ℕ) → i < length history
      → merge_of_line (get_or texts (suc i) [])
      ≡ Some
      (record {
        step = i;
        triple = merge_of history i;
        weight = weight_in job (history_before history i) (merge_of history i);
      })
