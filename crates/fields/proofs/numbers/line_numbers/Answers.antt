-- Where the line says so many numbers, they were put into the room; else there are none.
use Rattle.std.proofs.Common.{◌∙◌, sym}
use lib.ListN.{length-replicate}
use Rattle.fields.specs.code.Reading.{line_said}
use Rattle.fields.proofs.numbers.line_numbers.Goals as goal

pub returns-then-read_line : goal.returns-then-read_line
unfolding line_said
returns-then-read_line g c =
    let read = rw length-replicate at c.read_line.ensures in
    rw (sym read.good ∙ c.if-read_line.true, read.values c.if-read_line.true)

pub returns-else-read_line : goal.returns-else-read_line
unfolding line_said
returns-else-read_line g c =
    let read = rw length-replicate at c.read_line.ensures in
    rw (sym read.good ∙ c.if-read_line.false)
