-- Weight, count and the merges, each behind what is before it.
use native.Mathlib.Omega.{arith}
use Rattle.text.proofs.PrintedLines.{wrote_puts}
use Rattle.best_text.specs.code.MergesRead.{merges_in}
use Rattle.best_text.proofs.MergesPrinted.{found_wrote}
use Rattle.best_text.proofs.put_found.Goals as goal

pub returns : goal.returns
returns c =
    let args = c.args in
    let first = c.put_value-first.ensures in
    let second = c.put_value-second.ensures in
    let third = c.put_merges.ensures in
    let all = found_wrote args.least.weight args.least.reached (merges_in args.sequence.now) args.out.now
    (record { behind = first.value.0; written = first.out_after }) (record { behind = second.value.0; written = second.out_after })
    (record { behind = third.value.0; written = third.out_after }) (omega (arith, first.value.1, second.value.1, c.requires)) in
    wrote_puts all (omega (arith, first.value.1, second.value.1, third.value.1, c.requires))
