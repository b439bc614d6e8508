-- "journal bytes 16 + 21n": what a run writes fits, whatever it began from.
use mathlib.Core.Path.{ap}
use mathlib.Core.List.{List, [], ◌∷◌, ◌++◌, flat_map}
use Prim.Native.Nat.{ℕ, zero, suc, ◌+◌, ◌-◌, ◌*◌, ◌<◌, ◌≤◌}
use native.Mathlib.Omega.{arith}
use lib.Dec.{eqb}
use lib.ListN.{length, length-append}
use Rattle.lists.proofs.Tests.{whichever}
use Rattle.lists.proofs.Joined.{flatMap_joined}
use Rattle.entities.specs.declared.Triple.{Triple}
use Rattle.terms.specs.Job.{Job}
use Rattle.history.specs.Lawful.{Lawful, LawfulHistory}
use Rattle.history.specs.Choice.{weight_in}
use Rattle.history.specs.computed.Choosing.{chosen}
use Rattle.history.proofs.RowsAfter.{weight_in_most}
use Rattle.history.proofs.RunLawful.{chosen_lawful}
use Rattle.obeying.specs.LineForms.{header_text}
use Rattle.journal.specs.Writing.{line_of, header_behind, lines_of, journal_text}
use Rattle.journal.specs.computed.NewText.{greedy_lines, new_text}
use Rattle.journal.proofs.TextLengths.{header_short, merge_short}
use Rattle.journal.proofs.ObeyGreedy.{open_within}

-- Numbers of three digits for steps and entities, of four for weights and terms.
module _ (job : Job) (few : 3 * job.modes < 1000) (light : length job.terms < 10000) where
  line_fits : (history : List Triple) (merge : Triple) → length history < job.modes → Lawful job.modes history merge
      → length (line_of job history merge) ≤ 21
  unfolding line_of
  line_fits history merge left lawful =
      merge_short (length history) merge (weight_in job history merge) (omega arith)
      (omega (arith, open_within job.modes history merge.x left lawful.x_open))
      (omega (arith, open_within job.modes history merge.y left lawful.y_open))
      (omega (arith, open_within job.modes history merge.z left lawful.z_open))
      (omega (arith, weight_in_most job history merge))

  steps_fit : (steps : ℕ) (history : List Triple) → LawfulHistory job.modes history → length history + steps ≤ job.modes
      → length (flat_map (λ line. line) (greedy_lines job steps history)) ≤ 21 * steps
  unfolding greedy_lines flat_map
  steps_fit zero history lawful h = omega arith
  steps_fit (suc steps) history lawful h =
      let left : length history < job.modes = omega arith in
      let merge = chosen job history in
      let line = line_of job history merge in
      let rest = flat_map (λ line. line) (greedy_lines job steps (merge ∷ history)) in
      omega (
        arith,
        length-append line rest,
        line_fits history merge left (chosen_lawful job history lawful left),
        steps_fit steps (merge ∷ history) (chosen_lawful job history lawful left, lawful) (omega arith),
      )

  pub new_fits : (kept : ℕ) (history : List Triple) → LawfulHistory job.modes history → length history ≤ job.modes
      → length (new_text job kept history) ≤ 16 + 21 * (job.modes - length history)
  unfolding new_text header_behind
  new_fits kept history lawful h =
      let header = header_text job.rule job.modes (length job.terms) in
      let rest = flat_map (λ line. line) (greedy_lines job (job.modes - length history) history) in
      omega (
        arith,
        length-append (header_behind job kept) rest,
        whichever length 16 (eqb kept 0) header [] (λ e. header_short job.rule job.modes (length job.terms) (omega arith) light) (omega arith),
        steps_fit (job.modes - length history) history lawful (omega arith),
      )

  lines_fit : (history : List Triple) → LawfulHistory job.modes history → length history ≤ job.modes
      → length (flat_map (λ line. line) (lines_of job history)) ≤ 21 * length history
  unfolding lines_of flat_map
  lines_fit [] lawful h = omega arith
  lines_fit (merge ∷ history) lawful h =
      let line = line_of job history merge in
      let rest = flat_map (λ line. line) (lines_of job history) in
      omega (
        arith,
        ap length (flatMap_joined (λ line. line) (lines_of job history) (line ∷ [])),
        length-append rest (line ++ []),
        length-append line [],
        line_fits history merge (omega arith) lawful.0,
        lines_fit history lawful.1 (omega arith),
      )

  pub journal_fits : (history : List Triple) → LawfulHistory job.modes history → length history ≤ job.modes
      → length (journal_text job history) ≤ 16 + 21 * job.modes
  unfolding journal_text
  journal_fits history lawful h =
      let header = header_text job.rule job.modes (length job.terms) in
      omega (
        arith,
        length-append header (flat_map (λ line. line) (lines_of job history)),
        header_short job.rule job.modes (length job.terms) (omega arith) light,
        lines_fit history lawful h,
      )
