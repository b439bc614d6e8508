-- An unbroken run's journal, cut after any byte, is obeyed to a history of the same run.
use mathlib.Core.Path.{◌≡◌, refl, ap, ◌∙◌}
use mathlib.Core.List.{List, [], ◌++◌, flat_map}
use Prim.Native.Nat.{ℕ, zero, suc, ◌+◌, ◌-◌, ◌*◌, ◌≤◌}
use native.Mathlib.Nat.{zero-add}
use native.Mathlib.Omega.{arith}
use lib.ListN.{length, take}
use Rattle.entities.specs.declared.Triple.{Triple}
use Rattle.fields.specs.Lines.{lines, kept_of}
use Rattle.fields.proofs.LinesJoined.{whole_in, lines_cut, kept_cut, whole_within}
use Rattle.terms.specs.Job.{Job}
use Rattle.history.specs.computed.Greedy.{greedy, finished}
use Rattle.history.proofs.RunLawful.{greedy_length}
use Rattle.history.proofs.GreedySteps.{greedy_on}
use Rattle.obeying.specs.Obeying.{went, obeyed, obeyed_texts}
use Rattle.journal.specs.computed.NewText.{new_text, unbroken}
use Rattle.obeying.proofs.LineRead.{own_header}
use Rattle.journal.proofs.ObeyGreedy.{greedy_obeyed}
use Rattle.journal.proofs.GreedyLines.{unbroken_lines, unbroken_joined, unbroken_are_lines, length_unbroken_lines, kept_and_new}

-- Bytes of a journal that are obeyed to a history, one merge for each line behind the header, of the same run as another history; what is
-- kept of them and what the run writes behind them are the journal.
pub record CutObeyed (job : Job) (other : List Triple) (whole bytes : List ℕ) : Type 0 where
  pub history : List Triple
  pub obeys : obeyed job bytes ≡ went history
  pub same_end : finished job history ≡ finished job other
  pub same_bytes : kept_of bytes ++ new_text job (length (kept_of bytes)) history ≡ whole

-- The history that an unbroken run has reached after some steps.
module _ (job : Job) (j : ℕ) (h : j ≤ job.modes) where
  abbrev reached : List Triple
  reached = greedy job j []

  length_reached : length reached ≡ j
  length_reached = greedy_length job j [] ∙ zero-add j

  reached_end : finished job reached ≡ finished job []
  unfolding finished
  reached_end =
      let e : j + (job.modes - length reached) ≡ job.modes - 0 = omega (arith, length_reached) in
      greedy_on job j (job.modes - length reached) [] ∙ ap (λ n. greedy job n []) e

-- Every step and child is below 3n, and a line holds numbers up to 65535.
module _ (job : Job) (few : 3 * job.modes ≤ 65535) (light : length job.terms ≤ 65535) where
  abbrev texts : List (List ℕ)
  texts = unbroken_lines job

  texts_obeyed : (whole : ℕ) → whole - 1 ≤ job.modes → obeyed_texts job (take whole texts) ≡ went (greedy job (whole - 1) [])
  unfolding unbroken_lines obeyed_texts greedy
  texts_obeyed zero h = refl
  texts_obeyed (suc j) h =
      let e : suc j - 1 ≡ j = omega arith in
      rw (own_header job (omega arith) (omega arith), e) (greedy_obeyed job few light j job.modes [] tt (omega arith) (omega arith))

  -- Any cut.
  module _ (k : ℕ) where
    abbrev whole : ℕ
    whole = whole_in k texts

    merges_within : whole - 1 ≤ job.modes
    merges_within = omega (arith, whole_within texts k, length_unbroken_lines job)

    cut_lines : lines (take k (unbroken job)) ≡ take whole texts
    cut_lines = ap (λ l. lines (take k l)) (unbroken_joined job) ∙ lines_cut texts k (unbroken_are_lines job)

    cut_kept : kept_of (take k (unbroken job)) ≡ flat_map (λ line. line) (take whole texts)
    cut_kept = ap (λ l. kept_of (take k l)) (unbroken_joined job) ∙ kept_cut texts k (unbroken_are_lines job)

    pub cut_obeyed : CutObeyed job [] (unbroken job) (take k (unbroken job))
    unfolding obeyed
    cut_obeyed =
        record {
          history = greedy job (whole - 1) [];
          obeys = ap (obeyed_texts job) cut_lines ∙ texts_obeyed whole merges_within;
          same_end = reached_end job (whole - 1) merges_within;
          same_bytes =
              ap (λ kept. kept ++ new_text job (length kept) (greedy job (whole - 1) [])) cut_kept
              ∙ kept_and_new job whole merges_within;
        }
