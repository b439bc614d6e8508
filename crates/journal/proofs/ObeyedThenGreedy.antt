-- Demands 2 and 3: a call that is done obeyed its journal's lines in order, and the greedy rule went on from there to n merges.
use Rattle.std.specs.Prelude.{Ok}
use mathlib.Core.Path.{◌≡◌, refl, ap, ◌∙◌, sym}
use mathlib.Core.List.{List, ◌++◌, flat_map}
use Prim.Native.Nat.{ℕ, zero, suc, ◌-◌, ◌≤◌}
use native.Mathlib.Omega.{arith}
use borrow.Author.Tests.{leb-true}
use lib.Dec.{leb}
use lib.ListN.{length}
use Rattle.lists.specs.Ranges.{listed}
use Rattle.lists.proofs.Tests.{both}
use Rattle.entities.specs.declared.Triple.{Triple}
use Rattle.fields.specs.Lines.{lines, kept_of}
use Rattle.terms.specs.declared.rules.Rule.{Rule}
use Rattle.terms.specs.Rules.{rule_of}
use Rattle.terms.specs.Job.{Job, job_of}
use Rattle.terms.specs.Good.{modes_good, checked}
use Rattle.history.specs.History.{merge_of, history_before}
use Rattle.history.specs.computed.Greedy.{finished}
use Rattle.history.proofs.RunLawful.{finished_length}
use Rattle.history.proofs.RunsOn.{runs_on}
use Rattle.history.proofs.TrialTotals.{trials_total}
use Rattle.obeying.specs.Obeying.{went, obeyed}
use Rattle.journal.specs.Writing.{line_of, header_behind}
use Rattle.journal.specs.computed.NewText.{new_text}
use Rattle.journal.specs.Resuming.{Ending, ending}
use Rattle.obeying.specs.Obedience.{Obedient}
use Rattle.journal.specs.Obedience.{ObeyedThenGreedy, EveryCall}
use Rattle.journal.specs.code.NewLines.{noted_line, noted_text}
use Rattle.obeying.proofs.Obedience.{obedient}
use Rattle.journal.proofs.CallDone.{call_done}
use Rattle.journal.proofs.NotedLines.{noted_all}

joined_lines : (line : ℕ → List ℕ) (from count : ℕ)
    → flat_map (λ text. text) (listed line from count) ≡ flat_map line (listed (λ step. step) from count)
unfolding flat_map listed
joined_lines line from zero = refl
joined_lines line from (suc count) = ap (λ l. line from ++ l) (joined_lines line (suc from) count)

-- The end of a run from the merges that a journal says.
module _ (modes : ℕ) (rule : Rule) (count : ℕ) (numbers bytes : List ℕ) (good : checked modes numbers ≡ Ok count) (some : 1 ≤ modes) (history : List Triple)
    (obeys : obeyed (job_of modes rule count numbers) bytes ≡ went history) where
  abbrev job : Job
  job = job_of modes rule count numbers

  told : Obedient job (lines bytes) history
  told = obedient job bytes history obeys

  new_lines : new_text job (length (kept_of bytes)) history
      ≡ header_behind job (length (kept_of bytes))
      ++ flat_map (λ step. line_of job (history_before (finished job history) step) (merge_of (finished job history) step))
      (listed (λ step. step) (length history) (modes - length history))
  unfolding noted_text noted_line
  new_lines =
      let header = header_behind job (length (kept_of bytes)) in
      let merges = finished job history in
      sym (noted_all job history (length (kept_of bytes)))
      ∙ ap (λ n. header ++ noted_text job merges (length history) (n - length history)) (finished_length job history told.lawful told.within)
      ∙ ap (λ l. header ++ l) (joined_lines (noted_line job merges) (length history) (modes - length history))

  pub ending_told : ObeyedThenGreedy modes rule numbers bytes (ending job bytes history)
  unfolding ending
  ending_told =
      record {
        count = count;
        terms_good = good;
        history = history;
        obedient = told;
        merges = finished job history;
        runs = runs_on job history told.lawful told.within some;
        rows_are = refl;
        drops_are = refl;
        weight_is = refl;
        trials_left = trials_total job (modes - length history) history told.lawful (omega (arith, told.within));
        kept_is = refl;
        new_is = new_lines;
      }

pub obeyed_then_greedy : EveryCall
unfolding modes_good
obeyed_then_greedy rooms modes rule numbers bytes part says =
    let known = call_done rooms modes rule numbers bytes part says in
    let some = leb-true 1 modes (both (leb 1 modes) (leb modes rooms.modes) known.modes_are).0 in
    let whole = ending_told modes (rule_of rule) known.count numbers bytes known.terms_are some known.history known.obeys in
    let as_ended : (p : Ending) → p ≡ ending (job_of modes (rule_of rule) known.count numbers) bytes known.history → ObeyedThenGreedy modes (rule_of rule) numbers bytes p =
    λ p e. rw e whole in
    as_ended part known.ends
