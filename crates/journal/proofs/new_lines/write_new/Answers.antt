-- The header and the lines behind it are all that is written.
use mathlib.Core.Path.{◌∙◌}
use native.Mathlib.Omega.{arith}
use lib.ListN.{length-append}
use Rattle.lists.proofs.Behind.{written_behind_front}
use Rattle.merging.specs.code.State.{history_of}
use Rattle.journal.specs.Writing.{header_behind}
use Rattle.journal.specs.code.NewLines.{noted_from}
use Rattle.journal.proofs.NotedLines.{steps_fit}
use Rattle.journal.proofs.new_lines.write_new.Goals as goal

pub put_steps-requires : goal.put_steps-requires
put_steps-requires c =
    let text = c.requires.1.1 in
    let put = c.put_first-start in
    let first = put.ensures c.requires.0 _ text.holds in
    (c.requires.0, (c.requires.1.0, rw put.auto.journal (steps_fit _ _ c.args.run _ _ _ text _ first.0)))

pub returns : goal.returns
returns c job own text =
    let args = c.args in
    let put = c.put_first-start in
    let front = header_behind job args.kept in
    let rest = noted_from job (history_of args.run) args.from in
    let first = put.ensures job own text.holds in
    let fits = steps_fit job own args.run _ _ _ text _ first.0 in
    let steps = c.put_steps.ensures job own (rw put.auto.journal fits) in (
      steps.0 ∙ omega (arith, first.0, length-append front rest),
      steps.1 ∙ rw (first.0, first.1) (written_behind_front front rest args.journal.now),
    )
