-- "From any other accepted journal the lines are obeyed in order and the greedy rule goes on. The trials reported are exactly the lawful pairs of the steps not kept."
use Rattle.std.specs.Prelude.{◌≡◌, ℕ, ◌-◌, length, Ok}
use mathlib.Core.List.{List, ◌++◌, flat_map}
use Rattle.lists.specs.Ranges.{listed}
use Rattle.entities.specs.declared.Triple.{Triple}
use Rattle.fields.specs.Lines.{lines, kept_of}
use Rattle.terms.specs.declared.rules.Rule.{Rule}
use Rattle.terms.specs.Rules.{rule_of}
use Rattle.terms.specs.Job.{job_of}
use Rattle.terms.specs.Good.{checked}
use Rattle.history.specs.History.{merge_of, history_before}
use Rattle.history.specs.Run.{run_weight, RunsFrom}
use Rattle.history.specs.Drops.{drops}
use Rattle.history.specs.Flatpack.{flatpack}
use Rattle.history.specs.Trials.{trial_total}
use Rattle.obeying.specs.Obedience.{Obedient}
use Rattle.journal.specs.Writing.{line_of, header_behind}
use Rattle.journal.specs.Resuming.{Ending, done, Rooms, resumed}

-- A call that is done: the merges that its journal's lines say, n merges in all that begin with those and go on by the greedy rule, and
-- every number, row and byte of its answer read off them.
pub record ObeyedThenGreedy (modes : ℕ) (rule : Rule) (numbers bytes : List ℕ) (part : Ending) : Type 0 where
  pub count : ℕ
  pub terms_good : checked modes numbers ≡ Ok count
  pub history : List Triple
  pub obedient : Obedient (job_of modes rule count numbers) (lines bytes) history
  pub merges : List Triple
  pub runs : RunsFrom (job_of modes rule count numbers) history merges part.trials
  pub rows_are : part.rows ≡ flatpack modes merges
  pub drops_are : part.drops ≡ drops (job_of modes rule count numbers) merges
  pub weight_is : part.weight ≡ run_weight (job_of modes rule count numbers) merges
  pub trials_left : part.trials ≡ trial_total (modes - length history)
  pub kept_is : part.kept ≡ length (kept_of bytes)
  pub new_is : part.new
      ≡ header_behind (job_of modes rule count numbers) part.kept
      ++ flat_map (λ step. line_of (job_of modes rule count numbers) (history_before merges step) (merge_of merges step))
      (listed (λ step. step) (length history) (modes - length history))

-- Demands 2 and 3, of either rule: every call that is done is such a call.
abbrev pub EveryCall : Type 0
EveryCall =
    (rooms : Rooms) (modes rule : ℕ) (numbers bytes : List ℕ) (part : Ending)
    → resumed rooms modes rule numbers bytes ≡ done part → ObeyedThenGreedy modes (rule_of rule) numbers bytes part
