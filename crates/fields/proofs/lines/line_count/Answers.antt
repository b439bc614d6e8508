-- There are no more lines than bytes.
use Rattle.std.proofs.Common.{arith, ap, length, inl}
use Rattle.fields.proofs.LineSteps.{lines_few}
use Rattle.fields.proofs.lines.line_count.Goals as goal

pub count-requires-clause-fits : goal.count-requires-clause-fits
count-requires-clause-fits c =
    inl (omega (arith, ap length c.lines_of.ensures, lines_few c.args.bytes.now))
