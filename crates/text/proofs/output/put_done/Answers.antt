-- Weight, trials and the rows, each behind what is before it.
use native.Mathlib.Omega.{arith}
use Rattle.text.proofs.PrintedLines.{wrote_puts, done_wrote}
use Rattle.text.proofs.output.put_done.Goals as goal

pub returns : goal.returns
returns c =
    let first = c.put_value-first.ensures in
    let second = c.put_value-second.ensures in
    let third = c.put_nodes.ensures in
    let all = done_wrote c.args.weight c.args.trials c.args.rows.now c.args.out.now
    (record { behind = first.value.0; written = first.out_after }) (record { behind = second.value.0; written = second.out_after })
    (record { behind = third.value.0; written = third.out_after }) (omega arith) in
    wrote_puts all (omega (arith, c.requires))
