-- Each number stands behind the one before it.
use mathlib.Core.Path.{◌∙◌}
use Rattle.call_bytes.proofs.WordSteps.{four_written}
use Rattle.daemon.proofs.answering.put_numbers.Goals as goal

pub returns : goal.returns
returns c =
    let args = c.args in
    let numbers = args.numbers in
    c.put_eight-4.ensures
    ∙ four_written numbers.weight numbers.trials numbers.kept numbers.new args.out.now _ _ _
    c.put_eight.ensures
    c.put_eight-2.ensures
    c.put_eight-3.ensures
