-- A line that a run writes is obeyed: it says the next step, a lawful triple of open entities and the weight that the triple has.
use Rattle.std.specs.Prelude.{Some}
use mathlib.Core.Path.{◌≡◌, refl}
use mathlib.Core.Bool.{true, false}
use mathlib.Core.List.{List, ◌∷◌}
use Prim.Native.Nat.{ℕ, zero, suc, ◌+◌, ◌*◌, ◌<◌, ◌≤◌}
use native.Mathlib.Omega.{arith}
use borrow.Author.Tests.{lt-ltb, eq-eqb}
use lib.ListN.{length, take}
use Rattle.lists.proofs.Tests.{both}
use Rattle.entities.specs.declared.Triple.{Triple}
use Rattle.terms.specs.Job.{Job}
use Rattle.history.specs.History.{next_parent, is_open}
use Rattle.history.specs.Lawful.{Lawful, LawfulHistory, three_open, paired}
use Rattle.history.specs.Choice.{weight_in}
use Rattle.history.specs.computed.Pairs.{is_lawful}
use Rattle.history.specs.computed.Choosing.{chosen}
use Rattle.history.specs.computed.Greedy.{greedy}
use Rattle.history.proofs.Holders.{open_below}
use Rattle.history.proofs.LawfulTest.{lawful_test}
use Rattle.history.proofs.RowsAfter.{weight_in_most}
use Rattle.history.proofs.RunLawful.{chosen_lawful}
use Rattle.obeying.specs.declared.merge_line.MergeLine.{MergeLine}
use Rattle.obeying.specs.LineForms.{merge_of_line}
use Rattle.obeying.specs.Obeying.{went, judged_merge, judged_form, judged_line, obeyed_as, obeyed_next, obeyed_lines}
use Rattle.journal.specs.Writing.{line_of}
use Rattle.journal.specs.computed.NewText.{greedy_lines}
use Rattle.obeying.proofs.LineRead.{merge_read}

-- While a step is left, every open entity is below 3n.
pub open_within : (modes : ℕ) (history : List Triple) (entity : ℕ) → length history < modes → is_open modes history entity ≡ true
    → entity < 3 * modes
unfolding next_parent
open_within modes history entity left o = omega (arith, open_below modes history entity o)

module _ (job : Job) where
  -- A step and its entities are below 3n, which is what the numbers of a line must hold.
  module _ (few : 3 * job.modes ≤ 65535) where
    module _ (history : List Triple) (merge : Triple) (left : length history < job.modes) (lawful : Lawful job.modes history merge)
        (light : weight_in job history merge ≤ 65535) where
      abbrev says : MergeLine
      says = record { step = length history; triple = merge; weight = weight_in job history merge }

      pub line_read : merge_of_line (line_of job history merge) ≡ Some says
      unfolding line_of
      line_read =
          merge_read says (omega arith) (omega (arith, open_within job.modes history merge.x left lawful.x_open))
          (omega (arith, open_within job.modes history merge.y left lawful.y_open))
          (omega (arith, open_within job.modes history merge.z left lawful.z_open)) light

      pub line_obeyed : obeyed_next false job (line_of job history merge) (went history) ≡ went (merge ∷ history)
      unfolding judged_line judged_form judged_merge obeyed_as obeyed_next is_lawful
      line_obeyed =
          let passes = both (three_open job.modes history merge) (paired job.modes history merge) (lawful_test job.modes history merge lawful) in
          rw (lt-ltb (length history) job.modes left, line_read)
          (rw (
            eq-eqb (length history) (length history) refl,
            passes.0,
            passes.1,
            eq-eqb (weight_in job history merge) (weight_in job history merge) refl,
          ))

    module _ (light : length job.terms ≤ 65535) where
      pub chosen_obeyed : (history : List Triple) → LawfulHistory job.modes history → length history < job.modes
          → obeyed_next false job (line_of job history (chosen job history)) (went history)
          ≡ went (chosen job history ∷ history)
      chosen_obeyed history lawful left =
          let merge = chosen job history in
          line_obeyed history merge left (chosen_lawful job history lawful left)
          (omega (arith, weight_in_most job history merge))

      -- The first lines of a run that goes on from a history lead as far as its steps do.
      pub greedy_obeyed : (j steps : ℕ) (history : List Triple) → LawfulHistory job.modes history → length history + steps ≤ job.modes → j ≤ steps
          → obeyed_lines false job (went history) (take j (greedy_lines job steps history)) ≡ went (greedy job j history)
      unfolding obeyed_lines greedy greedy_lines
      greedy_obeyed zero steps history lawful h few = refl
      greedy_obeyed (suc j) zero history lawful h few = absurd (omega arith)
      greedy_obeyed (suc j) (suc steps) history lawful h few =
          let left : length history < job.modes = omega arith in
          let merge = chosen job history in
          rw (chosen_obeyed history lawful left)
          (greedy_obeyed j steps (merge ∷ history) (chosen_lawful job history lawful left, lawful) (omega arith) (omega arith))
