-- Demand 2: the run that goes on from a lawful history takes the choice of every step, as document 01 tells it.
use mathlib.Core.Path.{◌≡◌, refl, ap, ◌∙◌, sym}
use mathlib.Core.List.{List, [], ◌∷◌}
use Prim.Native.Nat.{ℕ, zero, suc, ◌+◌, ◌-◌, ◌<◌, ◌≤◌}
use native.Mathlib.Nat.{add-zero}
use native.Mathlib.Omega.{arith}
use lib.ListN.{length, drop}
use Rattle.lists.specs.Counting.{sum}
use Rattle.lists.specs.Ranges.{listed}
use Rattle.entities.specs.declared.Triple.{Triple}
use Rattle.terms.specs.Job.{Job}
use Rattle.history.specs.History.{merge_of, history_before}
use Rattle.history.specs.Lawful.{LawfulHistory}
use Rattle.history.specs.Choice.{Chosen}
use Rattle.history.specs.Run.{RunsFrom}
use Rattle.history.specs.computed.Pairs.{lawful_pairs}
use Rattle.history.specs.computed.Choosing.{chosen}
use Rattle.history.specs.computed.Greedy.{greedy, finished, trials}
use Rattle.history.proofs.Names.{pairs_right}
use Rattle.history.proofs.ChosenRight.{chosen_right}
use Rattle.history.proofs.OpenSums.{one_root}
use Rattle.history.proofs.PairCount.{some_pair}
use Rattle.history.proofs.RunLawful.{greedy_lawful, greedy_length, finished_lawful, finished_length}
use Rattle.history.proofs.GreedySteps.{before_step, step_chosen}

-- What stands before a step of a lawful history is lawful.
pub before_lawful : (modes more : ℕ) (history : List Triple) → LawfulHistory modes history → LawfulHistory modes (drop more history)
before_lawful modes zero history lawful = lawful
before_lawful modes (suc more) [] lawful = tt
before_lawful modes (suc more) (merge ∷ history) lawful = before_lawful modes more history lawful.1

-- How many lawful pairs a step has.
abbrev pairs_at : ℕ → List Triple → ℕ → ℕ
pairs_at modes merges step = length (lawful_pairs modes (history_before merges step))

-- The trials of greedy steps are the lawful pairs of each.
trials_sum : (job : Job) (steps : ℕ) (history : List Triple)
    → trials job steps history ≡ sum (listed (pairs_at job.modes (greedy job steps history)) (length history) steps)
unfolding trials greedy listed sum
trials_sum job zero history = refl
trials_sum job (suc steps) history =
    let first : history_before (greedy job (suc steps) history) (length history) ≡ history =
    ap (history_before (greedy job (suc steps) history)) (sym (add-zero (length history))) ∙ before_step job (suc steps) history 0 (omega arith) in
    ap2 (ap (λ before. length (lawful_pairs job.modes before)) (sym first)) (trials_sum job steps (chosen job history ∷ history))
  where
    ap2 : {a b c d : ℕ} → a ≡ b → c ≡ d → a + c ≡ b + d
    ap2 p q = rw (p, q)

module _ (job : Job) (history : List Triple) (lawful : LawfulHistory job.modes history) (within : length history ≤ job.modes) where
  abbrev steps : ℕ
  steps = job.modes - length history

  -- A step that was not kept.
  step_right : (i : ℕ) → i < steps
      → Chosen job (history_before (finished job history) (length history + i)) (merge_of (finished job history) (length history + i))
  unfolding finished
  step_right i h =
      let so_far = greedy job i history in
      let size = greedy_length job i history in
      let so_far_lawful = greedy_lawful job i history lawful (omega arith) in
      rw (before_step job steps history i (omega arith), step_chosen job steps history i h)
      (chosen_right job so_far so_far_lawful
      (some_pair job.modes so_far so_far_lawful (job.modes - length so_far) (omega (arith, size)) (omega (arith, size))))

  begins : history_before (finished job history) (length history) ≡ history
  unfolding finished greedy
  begins = ap (history_before (finished job history)) (sym (add-zero (length history))) ∙ before_step job steps history 0 (omega arith)

  counted : trials job steps history ≡ sum (listed (pairs_at job.modes (finished job history)) (length history) steps)
  unfolding finished
  counted = trials_sum job steps history

  pub runs_on : 1 ≤ job.modes → RunsFrom job history (finished job history) (trials job (job.modes - length history) history)
  runs_on some =
      let merges = finished job history in
      let merges_lawful = finished_lawful job history lawful within in
      let all = finished_length job history lawful within in
      record {
        all = all;
        begins = begins;
        goes_on = λ step kept left.
            let i : length history + (step - length history) ≡ step = omega arith in
            rw i at (step_right (step - length history) (omega arith));
        pairs = λ step. lawful_pairs job.modes (history_before (finished job history) step);
        pairs_are = λ step h.
            pairs_right job.modes (history_before merges step) (before_lawful job.modes (length merges - step) merges merges_lawful);
        trials_are = counted;
        ends = one_root job.modes merges merges_lawful all some;
      }
