-- Where the text is so many numbers, they were put into the room; else there are none.
use Rattle.std.proofs.Common.{◌∙◌, sym}
use lib.ListN.{length-replicate}
use Rattle.fields.specs.code.Reading.{numbers_said}
use Rattle.fields.proofs.numbers.numbers_of.Goals as goal

pub returns-then-read_numbers : goal.returns-then-read_numbers
unfolding numbers_said
returns-then-read_numbers g c =
    let read = rw length-replicate at c.read_numbers.ensures in
    rw (sym read.good ∙ c.if-read_numbers.true, read.values c.if-read_numbers.true)

pub returns-else-read_numbers : goal.returns-else-read_numbers
unfolding numbers_said
returns-else-read_numbers g c =
    let read = rw length-replicate at c.read_numbers.ensures in
    rw (sym read.good ∙ c.if-read_numbers.false)
